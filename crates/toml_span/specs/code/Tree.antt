-- What the tree under construction has at each path, and its invariants. The entries of a branch are the elements of an
-- array of tables.
use Rattle.std.specs.Prelude.{◌≡◌, ℕ, zero, suc, ◌⊎◌, Bool, true, false, List, [], ◌∷◌, length, Option, Some, None}
use Rattle.std.specs.Prelude.{option_map}
use Rattle.std.specs.Box.{box_value}
use Rattle.std.specs.List.{AllByRecursion}
use Rattle.std.specs.Map.{lookup, lookup_entry}
use Rattle.std.specs.BTreeMap.{BTreeMap}
use Rattle.std.specs.Global.{Box}
use Rattle.toml_span_lex.specs.Key.{is_named}
use Rattle.toml_span_lex.specs.declared.key.Key.{Key}
use Rattle.toml_span_lex.specs.declared.span.Span.{Span}
use Rattle.toml_span_tree.specs.declared.value.Value.{Value}
use Rattle.toml_span_tree.specs.Path.{Place, Path, reached, place_of as tree_place, key, position}
use Rattle.toml_span_tree.specs.Node as tree
use Rattle.toml_span_tree.specs.Value.{span_of, view}
use Rattle.toml_span.specs.declared.claims.ClaimInfo.{ClaimInfo}
use Rattle.toml_span.specs.declared.branch.Branch.{Branch}
use Rattle.toml_span.specs.declared.branch.Branch.TheViews.{out-Branch}
use Rattle.toml_span.specs.Claims.{pair_info, shape_claimed, key_span_of}
use Rattle.toml_span.specs.Flat.{by_header}
use Rattle.toml_span.specs.code.Machine.{Decided, CellMap, no_cell, with_span, Cell}
use Rattle.toml_span.specs.declared.claims.ClaimKind.TheVariants.{Assigned, ArrayOfTables, TableElement}
use Rattle.toml_span.specs.code.ClaimInfos.{deciding}
use Rattle.toml_span.specs.declared.claims.ClaimKind.{ClaimKind}
use Rattle.toml_span.specs.Ordered.{IsOrdered}

abbrev pub infos : Branch → List ClaimInfo
infos n = (out-Branch n).infos.items

abbrev pub entries : Branch → List Branch
entries n = (out-Branch n).entries.items

-- the branch with this name
abbrev pub child : List ℕ → Branch → Option Branch
child name n = option_map box_value (lookup (is_named name) (out-Branch n).tables.entries)

-- the key and the assigned value under this name, if there is one
abbrev pub closed_in : List ℕ → BTreeMap Key Value → Option (Key × Value)
closed_in name values = lookup_entry (is_named name) values.entries

abbrev pub closed : List ℕ → Branch → Option (Key × Value)
closed name n = closed_in name (out-Branch n).values

-- the item at this position
abbrev pub item : {A : Type 0} → ℕ → List A → Option A
item i [] = None
item zero (x ∷ xs) = Some x
item (suc i) (x ∷ xs) = item i xs

-- the branch with this name in a map, and the claims on it
abbrev pub child_in : List ℕ → BTreeMap Key (Box Branch) → Option Branch
child_in name tables = option_map box_value (lookup (is_named name) tables.entries)

abbrev pub child_infos : Option Branch → List ClaimInfo
child_infos None = []
child_infos (Some n) = infos n

-- ---- what a branch keeps and shows

-- the place at a path if this claim of a table or of an array of tables determines it
abbrev pub place_claimed : ClaimInfo → Place
place_claimed m = record { shape = shape_claimed m.kind; key_span = key_span_of m.kind m.key; span = m.extent }

abbrev pub by_info : ClaimInfo → Decided
by_info m = record { header = by_header m.kind; place = place_claimed m; key = m.key }

-- the place at a path with these claims; the key is that of the first claim
abbrev pub by_infos : List ClaimInfo → Option Decided
by_infos [] = None
by_infos (m ∷ ms) = option_map (λ x. with_span m.key (by_info x)) (deciding (m ∷ ms))

-- the span of a value's key or, if the value has no key, `span`, the value's own span
abbrev pub span_or : Span → Option Span → Span
span_or span None = span
span_or span (Some at) = at

abbrev pub plain : Place → Decided
plain p = record { header = false; place = p; key = span_or p.span p.key_span }

-- the place at each path in the finished value n, whose own key, if it has one, has the span `at`
abbrev pub value_shows : Option Span → tree.Node → Path → Option Decided
value_shows at n p = option_map (λ m. plain (tree_place m)) (reached p (at, n))

abbrev pub value_cell : Span → tree.Node → CellMap
value_cell at n [] = record { infos = pair_info Assigned at (span_of n) ∷ []; shown = value_shows (Some at) n [] }
value_cell at n (s ∷ p) = record { infos = []; shown = value_shows (Some at) n (s ∷ p) }

abbrev pub closed_cell : Option (Key × Value) → CellMap
closed_cell None p = no_cell
closed_cell (Some e) p = value_cell e.0.span (view e.1) p

-- the claim of an assigned value on its name
abbrev pub closed_infos : Option (Key × Value) → List ClaimInfo
closed_infos o = (closed_cell o []).infos

abbrev pub or_closed : Option Cell → Cell → Cell
or_closed (Some x) y = x
or_closed None y = y

abbrev pub or_nothing : Option Cell → Cell
or_nothing (Some x) = x
or_nothing None = no_cell

abbrev pub own_cell : List ClaimInfo → Cell
own_cell ms = record { infos = ms; shown = by_infos ms }

unfoldable pub cell_at : Path → Branch → Cell
cell_at [] n = own_cell (infos n)
cell_at (key name ∷ p) n = or_closed (option_map (cell_at p) (child name n)) (closed_cell (closed name n) p)
cell_at (position i ∷ p) n = or_nothing (option_map (cell_at p) (item i (entries n)))

abbrev pub cells : Branch → CellMap
cells n p = cell_at p n

abbrev pub or_zero : Option ℕ → ℕ
or_zero (Some n) = n
or_zero None = 0

-- the number of entries of the array of tables at a path
unfoldable pub count_at : Path → Branch → ℕ
count_at [] n = length (entries n)
count_at (key name ∷ p) n = or_zero (option_map (count_at p) (child name n))
count_at (position i ∷ p) n = or_zero (option_map (count_at p) (item i (entries n)))

abbrev pub counts : Branch → Path → ℕ
counts n p = count_at p n

-- ---- invariants

abbrev pub is_array_kind : ClaimKind → Bool
is_array_kind ArrayOfTables = true
is_array_kind _ = false

abbrev pub is_entry_kind : ClaimKind → Bool
is_entry_kind TableElement = true
is_entry_kind _ = false

-- None of the claims is that of an array of tables.
abbrev pub NoArray : List ClaimInfo → Type 0
NoArray ms = AllByRecursion (λ m. is_array_kind m.kind ≡ false) ms

-- None of the claims is that of an entry.
abbrev pub NoEntry : List ClaimInfo → Type 0
NoEntry ms = AllByRecursion (λ m. is_entry_kind m.kind ≡ false) ms

-- The claims are those of a branch that a name leads to: at least one, but no claim of the kind `TableElement`.
abbrev pub IsNamed : List ClaimInfo → Type 0
IsNamed [] = ⊥
IsNamed (m ∷ ms) = NoEntry (m ∷ ms)

-- The claims are those of an entry: the first is of the kind `TableElement`.
abbrev pub IsEntry : List ClaimInfo → Type 0
IsEntry [] = ⊥
IsEntry (m ∷ ms) = m.kind ≡ TableElement

-- The branch has no claims and nothing in it.
pub record IsFresh (n : Branch) : Type 0 where
  pub no_infos : infos n ≡ []
  pub no_values : (out-Branch n).values.entries ≡ []
  pub no_tables : (out-Branch n).tables.entries ≡ []
  pub no_entries : entries n ≡ []

-- The branch is an array of tables: it is claimed once, and has nothing except entries.
pub record IsArray (n : Branch) : Type 0 where
  pub claim : ClaimInfo
  pub only : infos n ≡ claim ∷ []
  pub array : claim.kind ≡ ArrayOfTables
  pub no_values : (out-Branch n).values.entries ≡ []
  pub no_tables : (out-Branch n).tables.entries ≡ []

-- The branch n is a table if this list of its entries is empty, otherwise an array of tables.
abbrev pub IsTableOrArray : Branch → List Branch → Type 0
IsTableOrArray n [] = NoArray (infos n)
IsTableOrArray n (x ∷ xs) = IsArray n

-- Each branch in `tables` has the claims of a branch that a name leads to, and its name is not in `values`.
abbrev pub AreNamed : Branch → Type 0
AreNamed n = (name : List ℕ) (c : Branch) → child name n ≡ Some c → (closed name n ≡ None) × IsNamed (infos c)

-- Each entry is a table with the claim of an entry.
abbrev pub AreEntries : List Branch → Type 0
AreEntries ns = (i : ℕ) (c : Branch) → item i ns ≡ Some c → (entries c ≡ []) × IsEntry (infos c)

-- In the tables of the assigned values, the names ascend.
abbrev pub HoldsOrderedValues : Branch → Type 0
HoldsOrderedValues n = (name : List ℕ) (e : Key × Value) → closed name n ≡ Some e → IsOrdered (view e.1)

-- The branch, and each branch in it, is a table or an array of tables. No name is in both `values` and `tables`. In the
-- tables of the assigned values, the names ascend.
pub data Sound : Branch → Type 0 where
  sound : (n : Branch)
      → IsTableOrArray n (entries n) → AreNamed n → AreEntries (entries n) → HoldsOrderedValues n
      → ((name : List ℕ) (c : Branch) → child name n ≡ Some c → Sound c)
      → ((i : ℕ) (c : Branch) → item i (entries n) ≡ Some c → Sound c)
      → Sound n

-- The branch is a table: the root, an inline table, an entry, or any other table.
abbrev pub IsScope : Branch → Type 0
IsScope n = Sound n × (entries n ≡ [])

-- A name leads to the branch, or the branch is new and will be claimed for the name.
abbrev pub IsChild : Branch → Type 0
IsChild n = Sound n × (IsFresh n ⊎ IsNamed (infos n))

abbrev pub IsHeld : Branch → Type 0
IsHeld n = Sound n × IsNamed (infos n)

-- The branch is an array of tables to which an entry is added, the first or a later one.
pub record IsOpen (n : Branch) : Type 0 where
  pub array : IsArray n
  pub added : AreEntries (entries n)
  pub below : (i : ℕ) (c : Branch) → item i (entries n) ≡ Some c → Sound c
