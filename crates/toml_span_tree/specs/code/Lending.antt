-- The functions that `pointer_mut` uses return `&mut` references. These definitions say how the final value of such a
-- reference determines the final value of the tree from which it was lent.
use Rattle.std.specs.Prelude.{◌≡◌, ℕ, List, [], Some, Vec, ⊤}
use Rattle.std.specs.Global.{Global}
use Rattle.std.specs.BTreeMap.{BTreeMap}
use Rattle.std.specs.Vec.{with_item}
use Rattle.std.specs.Borrow.{Fml, MutBor, RattleType, Lends, follows_so}
use mathlib.Core.Option.{some}
use mir.Syntax.{named}
use Rattle.std.specs.contracts.alloc.Global as global
use Rattle.std.specs.contracts.vec.Vec as vec
use Rattle.std.specs.contracts.collections.BTreeMap as tree
use Rattle.std.specs.contracts.impls.GlobalAllocator.TheImpl.{ghosts}
use Rattle.toml_span_lex.specs.contracts.key.KeyOrd.TheImpl as ord
use Rattle.toml_span_lex.specs.contracts.key.KeyPartialEq.TheImpl as eq
use Rattle.toml_span_lex.specs.contracts.key.KeyPartialOrd.TheImpl as partial_ord
use Rattle.toml_span_lex.specs.contracts.key.Key as key
use Rattle.toml_span_lex.specs.declared.key.Key.{Key}
use Rattle.toml_span_tree.specs.contracts.value.ValueInner as inner
use Rattle.toml_span_tree.specs.declared.value.Value.{Value}
use Rattle.toml_span_tree.specs.declared.value.ValueInner.{ValueInner, Array, Table}
use Rattle.toml_span_tree.specs.Node.{node}
use Rattle.toml_span_tree.specs.Value.{view, inner_view, members_view, inner_of, span_of}
use Rattle.toml_span_tree.specs.Path.{set_entry}
use Rattle.toml_span_tree.specs.Pointer.{segments, put_pointed}
use Rattle.toml_span_tree.specs.code.Pointer.{put_named, set_named}
use Rattle.toml_span_tree.specs.Lending.{value_row}

abbrev pub inner_row : RattleType
inner_row = inner.the_row (record { mir = named 1; lft = [] })

abbrev pub array_row : RattleType
array_row = vec.the_row value_row global.the_row ghosts

abbrev pub table_row : RattleType
table_row =
    tree.the_row (key.the_row (record { mir = named 1; lft = [] })) value_row global.the_row ord.ghosts eq.ghosts
    partial_ord.ghosts ghosts

abbrev pub lends_inner : MutBor Value → MutBor ValueInner → Fml
lends_inner s r = Lends value_row inner_row s r (λ w. record { value = Some w; span = s.now.span })

-- When the borrows end, P holds for the final values of s and r. R and T are their types.
abbrev pub LendsBy : (R T : RattleType) → MutBor R.Denot → MutBor T.Denot → (R.Denot → T.Denot → Type 0) → Fml
LendsBy R T s r P = follows_so R T s.ghost_name (some r.ghost_name) (λ w n. P n w) (λ _. ⊤)

abbrev pub lends_item : MutBor (Vec Value Global) → ℕ → MutBor Value → Fml
lends_item s i r = Lends array_row value_row s r (with_item s.now i)

abbrev pub lends_member : MutBor (BTreeMap Key Value) → List ℕ → MutBor Value → Fml
lends_member s name r =
    LendsBy table_row value_row s r
    (λ n w. members_view n.entries ≡ set_entry name (view w) (members_view s.now.entries))

abbrev pub lends_entry : MutBor ValueInner → List ℕ → MutBor Value → Fml
lends_entry s segment r =
    LendsBy inner_row value_row s r (λ n w. inner_view n ≡ set_named segment (view w) (inner_view s.now))

abbrev pub lends_child : MutBor Value → List ℕ → MutBor Value → Fml
lends_child s segment r =
    LendsBy value_row value_row s r
    (λ n w. view n ≡ node (set_named segment (view w) (inner_of (view s.now))) (span_of (view s.now)))

abbrev pub lends_named : MutBor Value → List ℕ → MutBor Value → Fml
lends_named s path r = LendsBy value_row value_row s r (λ n w. view n ≡ put_named (segments path) (view w) (view s.now))

abbrev pub lends_at : MutBor Value → List ℕ → MutBor Value → Fml
lends_at s p r = LendsBy value_row value_row s r (λ n w. view n ≡ put_pointed p (view w) (view s.now))

-- The content of the value has not been taken.
abbrev pub IsHeld : Value → Type 0
IsHeld v = (i : ValueInner) × (v.value ≡ Some i)

-- The content is an array.
abbrev pub IsArray : ValueInner → Type 0
IsArray i = (v : Vec Value Global) × (i ≡ Array v)

-- The content is a table.
abbrev pub IsTable : ValueInner → Type 0
IsTable i = (m : BTreeMap Key Value) × (i ≡ Table m)
