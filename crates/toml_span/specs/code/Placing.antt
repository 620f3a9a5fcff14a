-- What the functions that place claims, convert values and finish branches return. Each result may also be a failed
-- allocation.
use Rattle.std.specs.Prelude.{◌≡◌, ⊤, ℕ, ◌⊎◌, false, List, [], ◌∷◌, map, Result, Ok, Err}
use Rattle.std.specs.Prelude.{Option, Some, None, option_map}
use Rattle.std.specs.BTreeMap.{BTreeMap}
use Rattle.std.specs.Cmp.Lexicographic.{slice_cmp}
use Rattle.std.specs.Cow.{cow_str_bytes}
use Rattle.std.specs.List.Sorted.{IsStrictlySortedBy}
use Rattle.std.specs.Map.{keys_of}
use Rattle.std.specs.Ordering.{nat_cmp}
use Rattle.std.specs.Global.{Vec, Box}
use Rattle.std.specs.declared.alloc.AllocError.{AllocError}
use Rattle.std.specs.List.{AllZip}
use Rattle.toml_span_lex.specs.declared.span.Span.{Span}
use Rattle.toml_span_lex.specs.declared.key.Key.{Key}
use Rattle.toml_span_tree.specs.Path.{Path, Step, place_of as tree_place, Place, reached}
use Rattle.toml_span_tree.specs.Value.{view, inner_view, inner_of as tree_inner}
use Rattle.toml_span_tree.specs.declared.value.Value.{Value}
use Rattle.toml_span_tree.specs.Node as tree
use Rattle.toml_span_tree.specs.declared.value.ValueInner.TheVariants.{Table as table_inner}
use Rattle.toml_span_read.specs.Data.{ParsedValue as Read, parsed_span, ParsedAssignment, ParsedSection}
use Rattle.toml_span_read.specs.Data.{parsed_assignment, simple_key}
use Rattle.toml_span_read.specs.declared.value.Assignment.{Assignment}
use Rattle.toml_span.specs.declared.branch.Branch.{Branch}
use Rattle.toml_span.specs.Claims.{Claims, key_claims, value_claims, value_shape, shape_claimed, claims}
use Rattle.toml_span.specs.Claims.{part_info, assignments_claims}
use Rattle.toml_span.specs.code.Machine.{OkOrClash, clash_found, put_all, no_cells, show_all, Cell, CellMap}
use Rattle.toml_span.specs.code.Machine.{named_clash}
use Rattle.toml_span.specs.code.Relative.{counts_after, counts_after_through, passing, section_at, through}
use Rattle.toml_span.specs.code.Relative.{through_pair}
use Rattle.toml_span.specs.code.Tree.{entries, cells, counts, infos, IsScope, IsChild, IsHeld, Sound, value_shows}
use Rattle.toml_span.specs.declared.claims.HeaderInfo.{HeaderInfo}
use Rattle.toml_span.specs.declared.claims.ClaimInfo.{ClaimInfo}
use Rattle.toml_span.specs.code.ClaimInfos.{PlaceError, remember, deciding}
use Rattle.toml_span.specs.declared.claims.ClaimKind.{ClaimKind}
use Rattle.toml_span.specs.declared.claims.ClaimKind.TheVariants.{Passed, StandardTable, TableElement}
use Rattle.toml_span.specs.declared.scopes.Pending.{Pending}
use Rattle.toml_span.specs.Ordered.{IsOrdered, HoldsOrdered}
use Rattle.toml_span.specs.Borrowed.{strings_and_keys}
use Rattle.toml_span.specs.code.Borrowed.{table_held, StaysRight}
use Rattle.toml_span.specs.declared.branch.Branch.TheViews.{out-Branch}
use Rattle.toml_span_lex.specs.declared.stop.Stop.TheVariants.{Memory, Fault}
use Rattle.toml_span.specs.Clashes.{Resolves, first_clash}
use Rattle.toml_span.specs.Flat.{ShowsExactly, flat}

-- If the branch satisfied `Before`, either the claims have been placed below it, it satisfies `After`, and its arrays
-- of tables have these numbers of entries (elements); or the result is the first clash of the claims.
abbrev pub Reaches : (Branch → Type 0) → (Branch → Type 0) → Branch → Branch → Result (Unit {0}) PlaceError → Claims
    → (Path → ℕ) → Type 0
Reaches Before After old new r cs entries =
    Before old
    → OkOrClash r (clash_found (cells old) cs)
    (λ _. (cells new ≡ put_all (cells old) cs) × (counts new ≡ entries) × After new)

-- `Reaches` holds for a branch that is a table before and after, and the claims on this table itself do not change.
abbrev pub Places : Branch → Branch → Result (Unit {0}) PlaceError → Claims → (Path → ℕ) → Type 0
Places old new r cs entries = Reaches IsScope (λ n. IsScope n × (infos n ≡ infos old)) old new r cs entries

-- `Reaches` holds for a branch to which a name leads.
abbrev pub Passes : Branch → Branch → Result (Unit {0}) PlaceError → Claims → (Path → ℕ) → Type 0
Passes old new r cs entries = Reaches IsChild IsHeld old new r cs entries

-- `Reaches` holds for a branch that is a table afterwards, and the claim m has been recorded on this table itself.
abbrev pub Opening : (Branch → Type 0) → ClaimInfo → Branch → Branch → Result (Unit {0}) PlaceError → Claims
    → (Path → ℕ) → Type 0
Opening Before m old new r cs entries =
    Reaches Before (λ n. IsScope n × (infos n ≡ remember (infos old) m)) old new r cs entries

-- The branch can be claimed as this kind: as the table of a header or, if it has no entries, as a new entry.
abbrev pub Opens : ClaimKind → Branch → Type 0
Opens kind n = Sound n × ((kind ≡ StandardTable) ⊎ ((kind ≡ TableElement) × (entries n ≡ [])))

-- ---- keys and headers

-- the claims of an assignment in the table at p
abbrev pub assignment_claims : ParsedAssignment → Path → Claims
assignment_claims e p = key_claims p e.parts e.value (value_claims e.value)

-- the claims of these assignments, with paths that begin at their table
abbrev pub claims_of : List Assignment → Claims
claims_of pairs = assignments_claims (map parsed_assignment pairs) []

-- The pending value d, which was read as v, has been placed, or the result is the first clash. The branch is that of
-- `part`, a part of its key, and `rest` are the parts after `part` except the last.
abbrev pub PassesPair : Branch → Branch → Result (Unit {0}) PlaceError
    → Key → List Key → Pending → Read → Type 0
PassesPair old new r part rest d v =
    Passes old new r (through_pair (simple_key part) (map simple_key rest) (simple_key d.last) v) (counts old)

-- A section has been placed below a branch, or the result is the first clash. `parts` are the parts of its header that
-- lead from the branch to the section's table.
abbrev pub PlacesSection : Branch → Branch → Result (Unit {0}) PlaceError
    → HeaderInfo → List Key → List Assignment → Type 0
PlacesSection old new r h parts pairs =
    Places old new r (section_at (counts old) h (map simple_key parts) (claims_of pairs))
    (counts_after (counts old) h (map simple_key parts))

-- A section has been placed at or below the branch of `part`, or the result is the first clash. `part` is a part of its
-- header, and `rest` are the parts after it.
abbrev pub PassesHeader : Branch → Branch → Result (Unit {0}) PlaceError
    → HeaderInfo → Key → List Key → List Assignment → Type 0
PassesHeader old new r h part rest pairs =
    Passes old new r (through (counts old) h (simple_key part) (map simple_key rest) (claims_of pairs))
    (counts_after_through (counts old) h (map simple_key rest))

-- A section has been placed below a table, or the result is the first clash. `part` is the part of its header that
-- passes through the table, and `rest` are the parts after it.
abbrev pub PassesTable : Branch → Branch → Result (Unit {0}) PlaceError
    → HeaderInfo → Key → List Key → List Assignment → Type 0
PassesTable old new r h part rest pairs =
    Opening IsScope (part_info h Passed part.span) old new r
    (passing h (simple_key part) (map simple_key rest) (claims_of pairs) (counts old))
    (counts_after (counts old) h (map simple_key rest))

-- ---- values

-- The finished value x has the places of the value v that was read, at its own path and below it. The names in its
-- tables ascend.
abbrev pub IsFinished : Read → Value → Type 0
IsFinished v x =
    ((at : Option Span)
    → tree_place (at, view x) ≡ record { shape = value_shape v; key_span = at; span = parsed_span v })
    × ((s : Step) (p : Path) → value_shows None (view x) (s ∷ p)
    ≡ (show_all no_cells (value_claims v []) (s ∷ p)).shown)
    × IsOrdered (view x)

-- The result is the finished value, or the first clash in it.
abbrev pub ValueGives : Result Value PlaceError → Read → Type 0
ValueGives r v = OkOrClash r (clash_found no_cells (value_claims v [])) (IsFinished v)

-- the place in a cell
abbrev pub place_shown : Cell → Option Place
place_shown x = option_map (λ d. d.place) x.shown

-- The tree has the places in the cells `st` at all paths except the empty one.
abbrev pub ShowsBelow : tree.Inner → CellMap → Type 0
ShowsBelow i st =
    (s : Step) (p : Path)
    → option_map tree_place (reached (s ∷ p) (None, tree.node i (record { start = 0; end = 0 })))
    ≡ place_shown (st (s ∷ p))

-- The tree has the places in the cells `st` at all paths except the empty one, and a header determines none of them.
abbrev pub ShowsPlain : tree.Inner → CellMap → Type 0
ShowsPlain i st =
    (s : Step) (p : Path) → value_shows None (tree.node i (record { start = 0; end = 0 })) (s ∷ p) ≡ (st (s ∷ p)).shown

-- The result for an inline table or array whose scope has these claims is its content, or the first clash in it.
abbrev pub ScopeGives : {A : Type 0} → Result A PlaceError → (A → tree.Inner) → Claims → Type 0
ScopeGives r seen cs =
    OkOrClash r (clash_found no_cells cs) (λ x. ShowsPlain (seen x) (show_all no_cells cs) × HoldsOrdered (seen x))

-- ---- finishing

abbrev pub Table : Type 0
Table = BTreeMap Key Value

-- The names in the table ascend.
abbrev pub NamesAscend : Table → Type 0
NamesAscend t =
    IsStrictlySortedBy (λ k l. slice_cmp nat_cmp (cow_str_bytes k.name) (cow_str_bytes l.name)) (keys_of t.entries)

abbrev pub Array : Type 0
Array = Vec Value

-- The result is the table of `values` and of the values made from `tables`. Its strings and keys are borrowed correctly
-- if those of the two are.
abbrev pub Finishes : BTreeMap Key (Box Branch) → Table → Result Table AllocError → Type 0
Finishes tables values (Ok t) =
    (n : Branch) → (out-Branch n).tables ≡ tables → (out-Branch n).values ≡ values → IsScope n
    → ShowsBelow (inner_view (table_inner t)) (cells n) × HoldsOrdered (inner_view (table_inner t))
    × StaysRight n (table_held t.entries)
Finishes tables values (Err e) = ⊤

-- The result is the value made from the branch n, and the span of its key.
abbrev pub Becomes : Branch → Result (Span × Value) AllocError → Type 0
Becomes n (Ok r) =
    Sound n
    → ((m : ClaimInfo) (at : Option Span) → deciding (infos n) ≡ Some m
    → (r.0 ≡ m.key)
    × (tree_place (at, view r.1) ≡ record { shape = shape_claimed m.kind; key_span = at; span = m.extent }))
    × ShowsBelow (tree_inner (view r.1)) (cells n) × IsOrdered (view r.1) × StaysRight n (strings_and_keys r.1)
Becomes n (Err e) = ⊤

-- The value v is made from the branch n, an element of an array of tables.
abbrev pub BecomesEntry : Branch → Value → Type 0
BecomesEntry n v = (at : Span) × Becomes n (Ok (at, v))

-- The result is the array of the values made from the entries of an array of tables, in order.
abbrev pub EachBecomes : List Branch → Result Array AllocError → Type 0
EachBecomes ns (Ok a) = AllZip BecomesEntry ns a.items
EachBecomes ns (Err e) = ⊤

-- ---- the document

-- No section without a header adds an element to an array of tables.
abbrev pub AreSections : List ParsedSection → Type 0
AreSections [] = ⊤
AreSections (b ∷ bs) = (b.header ≡ [] → b.array ≡ false) × AreSections bs

-- If no two claims clash, the result is a tree that has the places of the flat document, with ascending names in each
-- table. Otherwise the result is the first clash.
abbrev pub Assembles : List ParsedSection → ℕ → Result Value PlaceError → Type 0
Assembles bs length (Ok root) =
    Resolves (claims bs) × ShowsExactly (view root) (flat length (claims bs)) × IsOrdered (view root)
Assembles bs length (Err (Fault c)) = first_clash (claims bs) ≡ Some (named_clash c)
Assembles bs length (Err (Memory e)) = ⊤
