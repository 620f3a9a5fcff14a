-- The final state of a value from which a `&mut` reference was lent.
use Rattle.std.specs.Prelude.{◌≡◌, ℕ, List, [], Option}
use Rattle.std.specs.Option.{OnSome}
use Rattle.std.specs.Borrow.{Fml, MutBor, RattleType, LendsSo}
use mir.Syntax.{named}
use Rattle.toml_span_tree.specs.contracts.value.Value as value
use Rattle.toml_span_tree.specs.declared.value.Value.{Value}
use Rattle.toml_span_tree.specs.Value.{view}
use Rattle.toml_span_tree.specs.Pointer.{put_pointed}

-- the type `Value<'de>`, where `'de` is the second lifetime of the signature
abbrev pub value_row : RattleType
value_row = value.the_row (record { mir = named 1; lft = [] })

-- When the borrows end, the tree that s borrows has the final value of r where the pointer p leads. If r is None, the
-- tree is unchanged.
abbrev pub lends_pointed : MutBor Value → List ℕ → Option (MutBor Value) → Fml
lends_pointed s p r =
    LendsSo value_row value_row s r (λ n w. OnSome r (view n ≡ put_pointed p (view w) (view s.now))) (λ n. n ≡ s.now)
