-- What the branches become.
use Rattle.toml_span_lex.proofs.Common.{◌≡◌, ℕ, zero, suc, List, [], ◌∷◌, Option, Some, None, option_map, option_and_then, false, cond, Ok, Less, is_eq, nat_cmp, inl, inr, refl, sym, ap, subst, ◌∙◌, IfSome, BTreeMap, insert_entry, box_value, cow_str_bytes, slice_cmp, Box, AllZip, AllByRecursion, keys_of, lookup_entry, cases_Bool, none-some, same_Some, arith, nat_tests, common_steps}
use Rattle.std.specs.List.Sorted.{IsStrictlySortedBy}
use Rattle.std.proofs.lemmas.Map.Keys.{sorted_head, sorted_tail}
use Rattle.toml_span_lex.specs.declared.key.Key.{Key}
use Rattle.toml_span_lex.specs.declared.span.Span.{Span}
use Rattle.toml_span_tree.specs.Node as tree
use Rattle.toml_span_tree.specs.Path.{key, position, Path, shape_table, shape_of as tree_shape, reached, place_of as tree_place}
use Rattle.toml_span_tree.specs.Value.{view, inner_view, items_view, inner_of as tree_inner}
use Rattle.toml_span_tree.specs.declared.value.Value.{Value}
use Rattle.toml_span_tree.specs.declared.value.ValueInner.{ValueInner}
use Rattle.toml_span_tree.specs.declared.value.ValueInner.TheVariants.{Table as table_inner, Array as array_inner}
use Rattle.toml_span_tree.proofs.Values.{inner_view-Table, inner_view-Array, entry_at-lookup}
use Rattle.toml_span_read.proofs.EarlierTree.{key_cmp, same_name}
use Rattle.toml_span.specs.declared.claims.ClaimInfo.{ClaimInfo}
use Rattle.toml_span.specs.declared.claims.ClaimKind.{ClaimKind}
use Rattle.toml_span.specs.declared.claims.ClaimKind.TheVariants.{ArrayOfTables}
use Rattle.toml_span.specs.declared.branch.Branch.{Branch}
use Rattle.toml_span.specs.declared.branch.Branch.TheViews.{out-Branch}
use Rattle.toml_span.specs.Claims.{shape_claimed, key_span_of}
use Rattle.toml_span.specs.code.ClaimInfos.{first_by_header, deciding}
use Rattle.toml_span.specs.code.Placing.{Becomes, BecomesEntry, EachBecomes, Finishes, NamesAscend, ShowsBelow, Table, Array, place_shown}
use Rattle.toml_span.specs.Ordered.{IsOrdered, HoldsOrdered, AreOrdered}
use Rattle.toml_span.specs.code.Tree.{infos, entries, child, item, closed, cells, cell_at, closed_cell, or_closed, or_nothing, own_cell, plain, is_array_kind, is_entry_kind, IsNamed, IsEntry, IsArray, IsTableOrArray, Sound, place_claimed}
use Rattle.toml_span_lex.specs.Key.{is_named}
use Rattle.toml_span.proofs.Nodes.{good-child, good-entry, good-value, sound-good, sound-shape}
use Rattle.toml_span.proofs.Borrowing.{box_strings, entry_right, of_node}
use Rattle.toml_span.proofs.Grafts.{path_ext}
use Rattle.toml_span.proofs.HeldValues.{array_held, array-held, elements-right, item_right, table-held}
use Rattle.toml_span.proofs.KeyMaps.{found-insert, value-of}
use Rattle.toml_span.proofs.Values.{Made}
use Rattle.toml_span.proofs.Ordered.{each-named, members-ordered, none-again}
use Rattle.toml_span_read.proofs.BorrowLemmas.{all_append}
use Rattle.toml_span.specs.Borrowed.{strings_and_keys, KeySpans, IsBorrowedRight, AreBorrowedRight}
use Rattle.toml_span.specs.code.Borrowed.{name_span, branch_strings, table_held, value_strings, StaysRight}
use Rattle.toml_span.specs.code.Machine.{key_spans}

-- ---- values and branches by name

-- at a name there is the original value, or what the branch with this name has become, under the branch's name
abbrev pub Stands : Option (Key × Box Branch) → Option (Key × Value) → Option (Key × Value) → Type 0
Stands None old new = new ≡ old
Stands (Some b) old new = old ≡ None → (e : Key × Value) × (new ≡ Some e) × (e.0.name ≡ b.0.name) × Becomes (box_value b.1) (Ok (e.0.span, e.1))

-- the same, if the branch with this name may still have to be finished
abbrev pub StandsSoFar : Option (Key × Box Branch) → Option (Key × Box Branch) → Option (Key × Value) → Option (Key × Value) → Type 0
StandsSoFar node None old new = Stands node old new
StandsSoFar node (Some b) old new = (node ≡ Some b) × (new ≡ old)

-- the values, once all branches but those in `left` are finished
pub record Filled (tables left : List (Key × Box Branch)) (old new : List (Key × Value)) : Type 0 where
  pub sorted : IsStrictlySortedBy key_cmp (keys_of left)
  pub stands : (name : List ℕ) → StandsSoFar (lookup_entry (is_named name) tables) (lookup_entry (is_named name) left) (lookup_entry (is_named name) old) (lookup_entry (is_named name) new)

-- the elements, once all entries but those in `left` are finished
abbrev pub EntriesFilled : List Branch → List Branch → List Value → Type 0
EntriesFilled all left made = Made Branch Value BecomesEntry all left made

-- ---- one more is finished

-- at a name, once the next branch is finished
finished-one : (name : List ℕ) (tables : Option (Key × Box Branch)) (k made : Key) (b : Box Branch) (left : List (Key × Box Branch)) (old : Option (Key × Value)) (new : List (Key × Value)) (v : Value)
    → made.name ≡ k.name → Becomes (box_value b) (Ok (made.span, v)) → AllByRecursion (λ q. key_cmp k q ≡ Less) (keys_of left)
    → StandsSoFar tables (lookup_entry (is_named name) ((k, b) ∷ left)) old (lookup_entry (is_named name) new)
    → StandsSoFar tables (lookup_entry (is_named name) left) old (lookup_entry (is_named name) (insert_entry key_cmp new made v))
finished-one name tables k made b left old new v named become after h =
    let same : is_named name made ≡ is_named name k = ap (λ n. is_eq (slice_cmp nat_cmp name (cow_str_bytes n))) named in
    let found = found-insert made v name new in
    elim (cases_Bool (is_named name k)) [
      | inl here ↦
          let at : StandsSoFar tables (Some (k, b)) old (lookup_entry (is_named name) new) = rw here at h in
          let none : lookup_entry (is_named name) left ≡ None = ap (λ l. lookup_entry (is_named l) left) (same_name name (cow_str_bytes k.name) here) ∙ none-again k left after in
          let free = ap (λ l. lookup_entry (is_named l) new) (sym (same_name name (cow_str_bytes made.name) (same ∙ here))) ∙ at.1 in
          rw (none, at.0)
          (λ missing. ((made, v), found.1 ∙ ap (λ c. cond c (Some (found.0, v)) (lookup_entry (is_named name) new)) (same ∙ here) ∙ ap (λ k. Some (k, v)) (found.2 (free ∙ missing)), named, become))
      | inr off ↦ rw (found.1 ∙ ap (λ c. cond c (Some (found.0, v)) (lookup_entry (is_named name) new)) (same ∙ off)) (rw off at h)
    ]

-- one more branch is finished
pub filled-more : (tables : List (Key × Box Branch)) (k made : Key) (b : Box Branch) (left : List (Key × Box Branch)) (old new : List (Key × Value)) (v : Value)
    → made.name ≡ k.name → Becomes (box_value b) (Ok (made.span, v)) → Filled tables ((k, b) ∷ left) old new → Filled tables left old (insert_entry key_cmp new made v)
filled-more tables k made b left old new v named become h = record {
  sorted = sorted_tail key_cmp k (keys_of left) h.sorted;
  stands = λ name.
      finished-one name (lookup_entry (is_named name) tables) k made b left (lookup_entry (is_named name) old) new v named become (sorted_head key_cmp k (keys_of left) h.sorted) (h.stands name);
}

-- ---- the deciding claim

-- what holds for all claims holds for the first one of a header
header-all : (P : ClaimInfo → Type 0) (ms : List ClaimInfo) → AllByRecursion P ms → IfSome (first_by_header ms) P
header-all P [] all = tt
header-all P (x ∷ ms) all = grind (arith, nat_tests, common_steps, header-all P ms)

-- and for the one that decides
decides : (P : ClaimInfo → Type 0) (x : ClaimInfo) (ms : List ClaimInfo) → AllByRecursion P (x ∷ ms) → (m : ClaimInfo) × (deciding (x ∷ ms) ≡ Some m) × P m
decides P x ms all = grind (arith, nat_tests, common_steps, header-all)

deciding-all : (P : ClaimInfo → Type 0) (ms : List ClaimInfo) (m : ClaimInfo) → AllByRecursion P ms → deciding ms ≡ Some m → P m
deciding-all P [] m all is = absurd (none-some m is)
deciding-all P (x ∷ ms) m all is = let d = decides P x ms all in subst P (same_Some d.0 m (sym d.1 ∙ is)) d.2

-- a branch at a name has a key
named_key : (kind : ClaimKind) (at : Span) → is_entry_kind kind ≡ false → key_span_of kind at ≡ Some at
named_key kind at h = grind (arith, nat_tests, common_steps)

-- what is not an array is a table
table_shape : (kind : ClaimKind) → is_array_kind kind ≡ false → shape_claimed kind ≡ shape_table
table_shape kind h = grind (arith, nat_tests, common_steps)

-- the claim that decides on a branch at a name, and on an entry
named-decides : (ms : List ClaimInfo) → IsNamed ms → (m : ClaimInfo) × (deciding ms ≡ Some m) × (key_span_of m.kind m.key ≡ Some m.key)
named-decides [] h = absurd h
named-decides (x ∷ ms) h = let d = decides (λ m. is_entry_kind m.kind ≡ false) x ms h in (d.0, d.1, named_key d.0.kind d.0.key d.2)

entry-decides : (ms : List ClaimInfo) → IsEntry ms → (m : ClaimInfo) × (deciding ms ≡ Some m) × (key_span_of m.kind m.key ≡ None)
entry-decides [] h = absurd h
entry-decides (x ∷ ms) h = (x, rw h, rw h)

-- the only claim of an array of tables
array-decides : (x m : ClaimInfo) → x.kind ≡ ArrayOfTables → deciding (x ∷ []) ≡ Some m → x ≡ m
array-decides x m array is = grind (arith, nat_tests, common_steps)

-- ---- what is shown

own-place : (ms : List ClaimInfo) → place_shown (own_cell ms) ≡ option_map place_claimed (deciding ms)
own-place ms = grind (arith, nat_tests, common_steps)

-- what a branch becomes shows what the branch keeps, with the key's span of the deciding claim
became-shows : (c : Branch) (at : Span) (v : Value) (o : Option Span) → Becomes c (Ok (at, v)) → Sound c
    → (m : ClaimInfo) × (deciding (infos c) ≡ Some m) × (key_span_of m.kind m.key ≡ o) → (p : Path)
    → option_map tree_place (reached p (o, view v)) ≡ place_shown (cell_at p c)
unfolding cell_at
became-shows c at v o become good d [] = rw (((become good).0 d.0 o d.1).1, own-place (infos c), d.1, d.2)
became-shows c at v o become good d (s ∷ p) = (become good).1 s p

-- a branch at a name
named-shows : (c : Branch) (at : Span) (v : Value) → Becomes c (Ok (at, v)) → Sound c → IsNamed (infos c) → (p : Path)
    → option_map tree_place (reached p (Some at, view v)) ≡ place_shown (cell_at p c)
named-shows c at v become good named p =
    let d = named-decides (infos c) named in
    became-shows c at v (Some at) become good (d.0, d.1, d.2 ∙ ap (λ k. Some k) (sym ((become good).0 d.0 None d.1).0)) p

-- the place does not depend on whether a header decided
plain_place : (o : Option (Option Span × tree.Node)) → option_map tree_place o ≡ option_map (λ d. d.place) (option_map (λ m. plain (tree_place m)) o)
plain_place o = grind (arith, nat_tests, common_steps)

-- a value at a name
closed-shows : (o : Option (Key × Value)) (p : Path) → option_map tree_place (option_and_then (reached p) (option_map (λ e. (Some e.0.span, view e.1)) o)) ≡ place_shown (closed_cell o p)
closed-shows o p = grind (arith, nat_tests, common_steps, plain_place)

-- the branch with a name
abbrev branch_of : Option (Key × Box Branch) → Option Branch
branch_of b = option_map (λ e. box_value e.1) b

child-entry : (n : Branch) (name : List ℕ) → child name n ≡ branch_of (lookup_entry (is_named name) (out-Branch n).tables.entries)
child-entry n name = grind (arith, nat_tests, common_steps, value-of)

-- there is no value where there is a branch
abbrev Apart : Option (Key × Box Branch) → Option (Key × Value) → Type 0
Apart b old = (c : Branch) → branch_of b ≡ Some c → (old ≡ None) × IsNamed (infos c) × Sound c

-- the value or branch at a name
name-shows : (b : Option (Key × Box Branch)) (old new : Option (Key × Value)) (p : Path) → Stands b old new → Apart b old
    → option_map tree_place (option_and_then (reached p) (option_map (λ e. (Some e.0.span, view e.1)) new)) ≡ place_shown (or_closed (option_map (cell_at p) (branch_of b)) (closed_cell old p))
name-shows None old new p h apart = rw h (closed-shows old p)
name-shows (Some b) old new p h apart =
    let a = apart (box_value b.1) refl in
    let made = h a.0 in
    rw (made.1) (named-shows (box_value b.1) made.0.0.span made.0.1 made.3 a.2 a.1 p)

-- once none is left
finished : (tables left : List (Key × Box Branch)) (old new : List (Key × Value)) (name : List ℕ) → left ≡ [] → Filled tables left old new
    → Stands (lookup_entry (is_named name) tables) (lookup_entry (is_named name) old) (lookup_entry (is_named name) new)
finished tables left old new name none h = rw none at (h.stands name)

-- a branch at a name, and its name among the values
node-named : (n : Branch) → Sound n → (name : List ℕ) → Apart (lookup_entry (is_named name) (out-Branch n).tables.entries) (closed name n)
node-named n good name c is = good-child n name c (sound-good n good (key name)) (child-entry n name ∙ is)

-- below a finished table there is what the branch's cells show
finished-shows : (t : Table) (left : List (Key × Box Branch)) (n : Branch) → left ≡ [] → Filled (out-Branch n).tables.entries left (out-Branch n).values.entries t.entries → Sound n → entries n ≡ []
    → ShowsBelow (inner_view (table_inner t)) (cells n)
unfolding cell_at
finished-shows t left n none h good table (key name) p =
    let shown = name-shows _ _ _ p (finished _ _ _ _ name none h) (node-named n good name) in
    rw (inner_view-Table t, ← entry_at-lookup name t.entries, child-entry n name) shown
finished-shows t left n none h good table (position i) p = rw (inner_view-Table t, table)

-- the value at a name is in order
name-ordered : (b : Option (Key × Box Branch)) (old new : Option (Key × Value)) (e : Key × Value) → Stands b old new → Apart b old → ((f : Key × Value) → old ≡ Some f → IsOrdered (view f.1))
    → new ≡ Some e → IsOrdered (view e.1)
name-ordered None old new e h apart kept is = kept e (sym h ∙ is)
name-ordered (Some b) old new e h apart kept is =
    let a = apart (box_value b.1) refl in
    let made = h a.0 in
    let same = same_Some made.0 e (sym made.1 ∙ is) in rw same at ((made.3 a.2).2)

-- a finished table is in order
finished-ordered : (t : Table) (left : List (Key × Box Branch)) (n : Branch) → left ≡ [] → Filled (out-Branch n).tables.entries left (out-Branch n).values.entries t.entries → NamesAscend t → Sound n
    → HoldsOrdered (inner_view (table_inner t))
finished-ordered t left n none h ascend good =
    rw (inner_view-Table t) (members-ordered t.entries ascend
    (each-named (λ e. IsOrdered (view e.1)) t.entries ascend
    (λ e is.
    let name = cow_str_bytes e.0.name in name-ordered _ _ _ e (finished _ _ _ _ name none h) (node-named n good name) (λ f is. good-value n name f (sound-good n good (key name)) is) is)))

-- ---- what is borrowed

-- the name of a branch is written where it is first claimed
name-written : (ms : List ClaimInfo) → option_map (λ d. d.key) (own_cell ms).shown ≡ name_span ms
name-written ms = grind (arith, nat_tests, common_steps)

abbrev EntryRight : List ℕ → KeySpans → Key × Value → Type 0
EntryRight text spans e = IsBorrowedRight text (e.0.name, spans []) × AreBorrowedRight text (strings_and_keys e.1 spans)

-- the value or branch at a name
name-right : (text : List ℕ) (b : Option (Key × Box Branch)) (old new : Option (Key × Value)) (e : Key × Value) → Stands b old new → Apart b old → new ≡ Some e
    → IfSome b (λ x. AreBorrowedRight text (box_strings x)) → IfSome old (λ x. AreBorrowedRight text (value_strings x))
    → EntryRight text (key_spans (λ p. or_closed (option_map (cell_at p) (branch_of b)) (closed_cell old p))) e
unfolding cell_at
name-right text None old new e h apart is boxes values =
    let right : AreBorrowedRight text (value_strings e) = rw (sym h ∙ is) at values in
    rw (sym h ∙ is) (right.0, subst (λ spans. AreBorrowedRight text (strings_and_keys e.1 spans)) (path_ext refl (λ s p. refl)) right.1)
name-right text (Some b) old new e h apart is boxes values =
    let a = apart (box_value b.1) refl in
    let made = h a.0 in
    let right : EntryRight text (key_spans (cells (box_value b.1))) made.0 =
    (rw (name-written (infos (box_value b.1)), made.2) boxes.0, (made.3 a.2).3 text boxes.1) in
    rw (same_Some made.0 e (sym made.1 ∙ is)) at right

-- the entries of a table
table-right : (text : List ℕ) (es : List (Key × Value)) (spans : KeySpans) → AllByRecursion (λ e. EntryRight text (λ p. spans (key (cow_str_bytes e.0.name) ∷ p)) e) es → AreBorrowedRight text (table_held es spans)
table-right text [] spans each = tt
table-right text (e ∷ es) spans each = (each.0.0, all_append (IsBorrowedRight text) (strings_and_keys e.1 (λ p. spans (key (cow_str_bytes e.0.name) ∷ p))) (table_held es spans) each.0.1 (table-right text es spans each.1))

-- what is borrowed correctly in a branch is so in the finished table
finished-right : (t : Table) (left : List (Key × Box Branch)) (n : Branch) → left ≡ [] → Filled (out-Branch n).tables.entries left (out-Branch n).values.entries t.entries → NamesAscend t → Sound n
    → StaysRight n (table_held t.entries)
unfolding cell_at
finished-right t left n none h ascend good text right =
    let inside = of_node text n right in
    table-right text t.entries (key_spans (cells n))
    (each-named (λ e. EntryRight text (λ p. key_spans (cells n) (key (cow_str_bytes e.0.name) ∷ p)) e) t.entries ascend
    (λ e is.
    let name = cow_str_bytes e.0.name in
    rw (child-entry n name)
    (name-right text _ _ _ e (finished _ _ _ _ name none h) (node-named n good name) is
    (entry_right text (Box Branch) box_strings (is_named name) (out-Branch n).tables.entries inside.1) (entry_right text Value value_strings (is_named name) (out-Branch n).values.entries inside.0))))

-- if there are none
pub filled-none : (tables : List (Key × Box Branch)) (values : List (Key × Value)) → tables ≡ [] → Filled tables [] values values
unfolding IsStrictlySortedBy
filled-none tables values none = record { sorted = tt; stands = λ name. rw none refl }

-- once all branches are finished
pub filled-finishes : (tables : BTreeMap Key (Box Branch)) (values t : Table) (left : List (Key × Box Branch)) → left ≡ [] → Filled tables.entries left values.entries t.entries → NamesAscend t
    → Finishes tables values (Ok t)
filled-finishes tables values t left none h ascend n sameTables sameValues scope =
    let filled : Filled (out-Branch n).tables.entries left (out-Branch n).values.entries t.entries = rw (sameTables, sameValues) h in
    (finished-shows t left n none filled scope.0 scope.1, finished-ordered t left n none filled ascend scope.0, finished-right t left n none filled ascend scope.0)

-- ---- tables and arrays of tables

-- what a branch becomes, given its shape, and the places below it separately
became : (n : Branch) (i : ValueInner) (spans : Span × Span) (v : Value) → IfSome (deciding (infos n)) (λ m. spans ≡ (m.key, m.extent)) → view v ≡ tree.node (inner_view i) spans.1
    → (Sound n → ((m : ClaimInfo) → deciding (infos n) ≡ Some m → tree_shape (inner_view i) ≡ shape_claimed m.kind) × ShowsBelow (inner_view i) (cells n) × HoldsOrdered (inner_view i) × StaysRight n (strings_and_keys v))
    → Becomes n (Ok (spans.0, v))
became n i spans v placed seen h good =
    let g = h good in
    let shown = reported in (shown.0, shown.1, shown.2, g.3)
  where
    reported : ((m : ClaimInfo) (at : Option Span) → deciding (infos n) ≡ Some m → (spans.0 ≡ m.key) × (tree_place (at, view v) ≡ record { shape = shape_claimed m.kind; key_span = at; span = m.extent }))
        × ShowsBelow (tree_inner (view v)) (cells n) × IsOrdered (view v)
    reported = let g = h good in let shape = g.0 in let below = g.1 in let order = g.2 in grind (arith, nat_tests, common_steps)

-- the content and span of a value that was created
abbrev IsMadeOf : ValueInner → Span → Value → Type 0
IsMadeOf i span v = (v.value ≡ Some i) × (v.span ≡ span)

-- a branch without entries becomes a table
pub became-table : (n : Branch) (t : Table) (spans : Span × Span) (v : Value) → IfSome (deciding (infos n)) (λ m. spans ≡ (m.key, m.extent)) → view v ≡ tree.node (inner_view (table_inner t)) spans.1
    → IsMadeOf (table_inner t) spans.1 v → entries n ≡ [] → Finishes (out-Branch n).tables (out-Branch n).values (Ok t) → Becomes n (Ok (spans.0, v))
became-table n t spans v placed seen kept none made =
    became n (table_inner t) spans v placed seen
    (λ good.
    let whole = made n refl refl (good, none) in
    (λ m is. grind (arith, nat_tests, common_steps, deciding-all, inner_view-Table, sound-shape, table_shape), whole.0, whole.1, subst (StaysRight n) (sym (table-held v t spans.1 kept)) whole.2))

-- the entries at their positions
elements-show : (ns : List Branch) (vs : List Value) → AllZip BecomesEntry ns vs → ((i : ℕ) (c : Branch) → item i ns ≡ Some c → IsEntry (infos c) × Sound c) → (i : ℕ) (p : Path)
    → option_map tree_place (option_and_then (reached p) (tree.element_at i (items_view vs))) ≡ place_shown (or_nothing (option_map (cell_at p) (item i ns)))
elements-show [] [] made good i p = refl
elements-show (n ∷ ns) (v ∷ vs) made good zero p =
    let g = good 0 n refl in
    became-shows n made.0.0 v None made.0.1 g.1 (entry-decides (infos n) g.0) p
elements-show (n ∷ ns) (v ∷ vs) made good (suc i) p = elements-show ns vs made.1 (λ j c is. good (suc j) c is) i p
elements-show ns ms made good i p = absurd made

-- the elements are in order
elements-ordered : (ns : List Branch) (vs : List Value) → AllZip BecomesEntry ns vs → ((i : ℕ) (c : Branch) → item i ns ≡ Some c → Sound c) → AreOrdered (items_view vs)
elements-ordered [] [] made good = tt
elements-ordered (n ∷ ns) (v ∷ vs) made good = ((made.0.1 (good 0 n refl)).2, elements-ordered ns vs made.1 (λ i c is. good (suc i) c is))
elements-ordered ns ms made good = absurd made

-- a sound branch with entries is an array of tables
array-of : (n : Branch) (ns : List Branch) → entries n ≡ ns → (ns ≡ [] → ⊥) → IsTableOrArray n ns → IsArray n
array-of n ns is some h = grind (arith, nat_tests, common_steps)

-- below an array of tables there are its entries
array-shows : (n : Branch) (a : Array) → EachBecomes (entries n) (Ok a) → Sound n → IsArray n → ShowsBelow (inner_view (array_inner a)) (cells n)
unfolding cell_at
array-shows n a made good arr (key name) p = rw (inner_view-Array a, arr.no_tables, arr.no_values)
array-shows n a made good arr (position i) p =
    let shown = elements-show (entries n) a.items made (λ j c is. let g = good-entry n j c (sound-good n good (position j)) is in (g.1, g.2)) i p in
    rw (inner_view-Array a) shown

-- and so is the array
array-ordered : (n : Branch) (a : Array) → EachBecomes (entries n) (Ok a) → Sound n → HoldsOrdered (inner_view (array_inner a))
array-ordered n a made good = rw (inner_view-Array a) (elements-ordered (entries n) a.items made (λ j c is. (good-entry n j c (sound-good n good (position j)) is).2))

-- an element has the position of its entry
element-made : (i : ℕ) (ns : List Branch) (vs : List Value) (v : Value) → AllZip BecomesEntry ns vs → item i vs ≡ Some v → (n : Branch) × (item i ns ≡ Some n) × BecomesEntry n v
element-made i [] [] v made is = absurd (none-some v is)
element-made zero (n ∷ ns) (x ∷ vs) v made is = (n, refl, subst (BecomesEntry n) (same_Some x v is) made.0)
element-made (suc i) (n ∷ ns) (x ∷ vs) v made is = element-made i ns vs v made.1 is
element-made i ns vs v made is = absurd made

-- and what is borrowed correctly in an entry is so in the element
array-right : (n : Branch) (a : Array) → EachBecomes (entries n) (Ok a) → Sound n → StaysRight n (array_held a.items)
unfolding cell_at
array-right n a made good text right =
    elements-right text 0 a.items (key_spans (cells n))
    (λ j l v at is.
    let e = element-made j (entries n) a.items v made is in
    let plain : l ≡ j = omega (arith, at) in
    let here : item l (entries n) ≡ Some e.0 = ap (λ k. item k (entries n)) plain ∙ e.1 in
    rw here ((e.2.1 (good-entry n l e.0 (sound-good n good (position l)) here).2).3 text (item_right text branch_strings l e.0 (entries n) here (of_node text n right).2)))

-- a branch with entries becomes an array
pub became-array : (n : Branch) (a : Array) (spans : Span × Span) (v : Value) → IfSome (deciding (infos n)) (λ m. spans ≡ (m.key, m.extent)) → view v ≡ tree.node (inner_view (array_inner a)) spans.1
    → IsMadeOf (array_inner a) spans.1 v → (entries n ≡ [] → ⊥) → EachBecomes (entries n) (Ok a) → Becomes n (Ok (spans.0, v))
became-array n a spans v placed seen kept some made =
    became n (array_inner a) spans v placed seen
    (λ good.
    let array = array-of n (entries n) refl some (sound-shape n good) in (
      λ m is. grind (arith, nat_tests, common_steps, array-decides, inner_view-Array),
      array-shows n a made good array,
      array-ordered n a made good,
      subst (StaysRight n) (sym (array-held v a spans.1 kept)) (array-right n a made good),
    ))

-- a list from which an item can be taken is not empty
pub never-empty : {A : Type 0} (x : A) (xs ys : List A) → ys ≡ x ∷ xs → ys ≡ [] → ⊥
never-empty x xs ys some none = let same : [] ≡ x ∷ xs = sym none ∙ some in cc
