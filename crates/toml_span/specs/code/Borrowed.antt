-- Which strings and keys are borrowed in the tree under construction, and in the parts from which it is made. They are
-- borrowed correctly if `AreBorrowedRight` holds for them.
use Rattle.std.specs.Prelude.{◌≡◌, ℕ, ◌⊎◌, List, ◌∷◌, ◌++◌, map, Option, Some, None, Result, IfOk, OnOk, option_map}
use Rattle.std.specs.Box.{box_value}
use Rattle.std.specs.Global.{Box}
use Rattle.toml_span_lex.specs.declared.span.Span.{Span}
use Rattle.toml_span_lex.specs.declared.key.Key.{Key}
use Rattle.toml_span_tree.specs.Node.{Node, node, table}
use Rattle.toml_span_tree.specs.Value.{members_view, view}
use Rattle.toml_span_tree.specs.declared.value.Value.{Value}
use Rattle.toml_span_read.specs.Borrowed.{assignments_written, joined, key_written, keys_written, AreWrittenRight}
use Rattle.toml_span_read.specs.Borrowed.{IsWrittenRight}
use Rattle.toml_span_read.specs.declared.value.Assignment.{Assignment}
use Rattle.toml_span.specs.Borrowed.{KeySpans, StringsAndKeys, StringOrKey, entries_strings, AreBorrowedRight}
use Rattle.toml_span.specs.Borrowed.{strings_and_keys}
use Rattle.toml_span.specs.declared.branch.Branch.TheOpen.{Branch-F}
use Rattle.toml_span.specs.declared.branch.Branch.{Branch, fold-Branch}
use Rattle.toml_span.specs.declared.claims.ClaimInfo.{ClaimInfo}
use Rattle.toml_span.specs.declared.scopes.Pending.{Pending}
use Rattle.toml_span.specs.code.Machine.{key_spans}
use Rattle.toml_span.specs.code.ClaimInfos.{PlaceError, first}
use Rattle.toml_span.specs.code.Tree.{cells, infos, value_shows, IsFresh}

-- the strings and keys of a table
abbrev pub table_held : List (Key × Value) → StringsAndKeys
table_held es = entries_strings (map (λ e. (e.0, strings_and_keys e.1)) es)

-- ---- finished values

-- The span of the key at each path in the value n, whose own key, if it has one, has the span `at`. At the path of a
-- value without a key, it is the span of that value.
abbrev pub own_spans : Option Span → Node → KeySpans
own_spans at n p = option_map (λ d. d.key) (value_shows at n p)

-- The strings and keys in a value, where each key is written at the span that it has in the tree. The key of the value
-- itself, if it has one, has the span `at`. `own_elements` and `own_table` do the same for the elements of an array and
-- for a table.
abbrev pub own_held : Option Span → Value → List StringOrKey
own_held at v = strings_and_keys v (own_spans at (view v))

abbrev pub own_elements : List Value → List StringOrKey
own_elements vs = joined (map (own_held None) vs)

abbrev pub own_table : List (Key × Value) → List StringOrKey
own_table es = table_held es (own_spans None (node (table (members_view es)) (record { start = 0; end = 0 })))

-- the key of an entry, and the strings and keys in its value
abbrev pub value_strings : Key × Value → List StringOrKey
value_strings e = (e.0.name, Some e.0.span) ∷ own_held (Some e.0.span) e.1

-- ---- branches

-- the span where the name of a branch is written: that of the key in the first claim on the branch
abbrev pub name_span : List ClaimInfo → Option Span
name_span ms = option_map (λ m. m.key) (first ms)

-- the span where the name of a branch is written, and the strings and keys in the branch
abbrev pub Contents : Type 0
Contents = Option Span × List StringOrKey

abbrev pub named_strings : Key × Box Contents → List StringOrKey
named_strings e = (e.0.name, (box_value e.1).0) ∷ (box_value e.1).1

-- The contents of a branch, given those of the branches in it: the strings and keys of the assigned values, of the
-- branches in `tables`, and of the elements.
abbrev pub node_step : Branch-F Contents → Contents
node_step n = (
  name_span n.infos.items,
  joined (map value_strings n.values.entries)
      ++ (joined (map named_strings n.tables.entries) ++ joined (map (λ x. x.1) n.entries.items)),
)

-- the strings and keys in a branch
abbrev pub branch_strings : Branch → List StringOrKey
branch_strings n = (fold-Branch Contents node_step n).1

-- ---- what the functions preserve

-- If the strings and keys in the branch were borrowed correctly and the function succeeds, they still are, and the
-- claims on the branch itself are unchanged.
abbrev pub KeepsBorrows : List ℕ → Branch → Branch → Result (Unit {0}) PlaceError → Type 0
KeepsBorrows text old new r =
    AreBorrowedRight text (branch_strings old)
    → OnOk r (AreBorrowedRight text (branch_strings new) × (infos new ≡ infos old))

-- The name of the branch is written at the span `at`, or the branch is new, and `at` is `next`, the span where its name
-- will be written.
abbrev pub IsWrittenAt : Span → Span → Branch → Type 0
IsWrittenAt next at n = (name_span (infos n) ≡ Some at) ⊎ (IsFresh n × (next ≡ at))

-- Like `KeepsBorrows`, for a branch that a key with the span `next` claims. The claims on the branch may change, but
-- its name is written where it was before or, if the branch was new, at `next`.
abbrev pub KeepsName : List ℕ → Span → Branch → Branch → Result (Unit {0}) PlaceError → Type 0
KeepsName text next old new r =
    AreBorrowedRight text (branch_strings old)
    → OnOk r (AreBorrowedRight text (branch_strings new)
    × ((at : Span) → IsWrittenAt next at old → name_span (infos new) ≡ Some at))

-- The strings and keys in the value, if there is one, are borrowed correctly, where each key is written at its span.
abbrev pub ValueRight : List ℕ → Result Value PlaceError → Type 0
ValueRight text r = IfOk r (λ v. (at : Option Span) → AreBorrowedRight text (own_held at v))

-- If the parts `inner` of a key, and the last part and the value in d, are borrowed correctly, then P holds.
abbrev pub IfPairRight : List ℕ → List Key → Pending → Type 0 → Type 0
IfPairRight text inner d P =
    AreWrittenRight text (keys_written inner) → IsWrittenRight text (key_written d.last) → ValueRight text d.value
    → P

-- If these parts of a header, and the assignments of its section, are borrowed correctly, then P holds.
abbrev pub IfSectionRight : List ℕ → List Key → List Assignment → Type 0 → Type 0
IfSectionRight text parts pairs P =
    AreWrittenRight text (keys_written parts) → AreWrittenRight text (assignments_written pairs) → P

-- If the strings and keys of a branch are borrowed correctly, so are those of the value that is made from it. Keys are
-- written at the spans of the first claims on their paths.
abbrev pub StaysRight : Branch → StringsAndKeys → Type 0
StaysRight n h =
    (text : List ℕ) → AreBorrowedRight text (branch_strings n) → AreBorrowedRight text (h (key_spans (cells n)))
