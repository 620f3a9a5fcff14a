-- Assignments placed one after another, and inline tables.
use Rattle.toml_span_lex.proofs.Common.{◌≡◌, ℕ, List, [], ◌∷◌, ◌==◌, true, map, vec_len, Option, None, option_map, Result, Ok, Err, BTreeMap, refl, sym, ap, ◌∙◌, subst, arith, nil_from_length, nat_tests, common_steps}
use Rattle.std.proofs.lemmas.Bool.{eqb-true}
use Rattle.toml_span_lex.specs.declared.key.Key.{Key}
use Rattle.toml_span_tree.specs.Node as tree
use Rattle.toml_span_tree.specs.Path.{Place, reached, place_of as tree_place}
use Rattle.toml_span_tree.specs.Value.{inner_view, members_view}
use Rattle.toml_span_tree.proofs.Values.{inner_view-Table}
use Rattle.toml_span_tree.specs.declared.value.Value.{Value}
use Rattle.toml_span_tree.specs.declared.value.ValueInner.TheVariants.{Table}
use Rattle.toml_span_read.specs.Data.{ParsedAssignment, parsed_value, parsed_assignment, parsed_span, simple_key}
use Rattle.toml_span_read.specs.declared.value.Assignment.{Assignment}
use Rattle.toml_span_read.specs.declared.value.Val.{Val}
use Rattle.toml_span_read.proofs.Views.{assignment_is, view_is}
use Rattle.toml_span.specs.code.ClaimInfos.{PlaceError}
use Rattle.toml_span_lex.specs.declared.stop.Stop.TheVariants.{Memory, Fault}
use Rattle.toml_span.specs.declared.branch.Branch.{Branch}
use Rattle.toml_span.specs.declared.branch.Branch.TheViews.{out-Branch}
use Rattle.toml_span.specs.Claims.{Claims, no_claims, followed, assignments_claims}
use Rattle.toml_span.specs.code.Machine.{CellMap, key_spans, no_cells, show_all, put_all, clash_found}
use Rattle.toml_span.specs.code.Placing.{Places, ScopeGives, ShowsBelow, ShowsPlain, Finishes, place_shown, assignment_claims}
use Rattle.toml_span.specs.code.Relative.{pair_at}
use Rattle.toml_span.specs.Borrowed.{strings_and_keys, AreBorrowedRight}
use Rattle.toml_span.specs.code.Borrowed.{own_spans, own_table, branch_strings}
use Rattle.toml_span.specs.code.Tree.{infos, cells, counts, plain, IsScope, IsFresh}
use Rattle.toml_span.proofs.Absolute.{pair_at-is}
use Rattle.toml_span.proofs.Grafts.{followed-assoc, followed-none, reported-followed}
use Rattle.toml_span.proofs.Placed.{gives-map, reaches-then}
use Rattle.toml_span.proofs.HeldValues.{table-spans}
use Rattle.toml_span.proofs.Nodes.{cells-fresh, scope-fresh}
use Rattle.toml_span.proofs.Shown.{put_all-shown, shown-plain, assignments-no_header}

-- ---- one assignment

-- the value's span
pub val_span : (v : Val) → v.span ≡ parsed_span (parsed_value v)
val_span v = sym (ap parsed_span (view_is v))

pair-claims : (a : Assignment) → pair_at (map simple_key a.parts.inner.items) (simple_key a.parts.last) (parsed_value a.value) ≡ assignment_claims (parsed_assignment a) []
pair-claims a = pair_at-is (map simple_key a.parts.inner.items) (simple_key a.parts.last) (parsed_value a.value) ∙ ap (λ e. assignment_claims e []) (sym (assignment_is a))

-- an assignment is the pair of its last part and the value
pub places-one : (a : Assignment) (inner : List Key) (old new : Branch) (r : Result (Unit {0}) PlaceError) → inner ≡ a.parts.inner.items
    → Places old new r (pair_at (map simple_key inner) (simple_key a.parts.last) (parsed_value a.value)) (counts old) → Places old new r (assignment_claims (parsed_assignment a) []) (counts old)
places-one a inner old new r is h = grind (arith, nat_tests, common_steps, pair-claims)

-- a key with one part
pub inner-none : (a : Assignment) → true ≡ (vec_len a.parts.inner == 0) → [] ≡ a.parts.inner.items
inner-none a h = let v = a.parts.inner in sym (nil_from_length v.items (omega (arith, v.ok.0, eqb-true (vec_len v) 0 (sym h))))

-- ---- one after another

-- what has been placed, beginning at the branch `first`, before the rest
pub record Remains (n : Branch) (rest : Claims) (first : Branch) (all : Claims) : Type 0 where
  pub done : Claims
  pub split : all ≡ followed done rest
  pub placed : Places first n (Ok tt) done (counts first)

abbrev pub Placing : Branch → List Assignment → Branch → List Assignment → Type 0
Placing n rest first all = Remains n (assignments_claims (map parsed_assignment rest) []) first (assignments_claims (map parsed_assignment all) [])

pub remains-first : (n : Branch) (rest all : List Assignment) → rest ≡ all → Placing n rest n all
unfolding clash_found put_all followed
remains-first n rest all same = record { done = no_claims; split = ap (λ es. assignments_claims (map parsed_assignment es) []) (sym same); placed = λ scope. (refl, (refl, refl, (scope, refl))) }

pub placed-then : (first n w : Branch) (r : Result (Unit {0}) PlaceError) (xs ys : Claims) → Places first n (Ok tt) xs (counts first) → Places n w r ys (counts n) → Places first w r (followed xs ys) (counts first)
placed-then first n w r xs ys h g before =
    reaches-then IsScope (λ m. IsScope m × (infos m ≡ infos first)) (λ m. IsScope m × (infos m ≡ infos first)) first n w r xs ys (counts first) (counts first) h
    (λ now. gives-map r _ _ _ _ refl (λ u k. (k.0, k.1 ∙ (h before).1.1, (k.2.0, k.2.1 ∙ now.1))) (g now.0)) before

-- the next one, and those after it
next-split : (n first : Branch) (old new all : List Assignment) (a : Assignment) → old ≡ a ∷ new → (inv : Placing n old first all)
    → assignments_claims (map parsed_assignment all) [] ≡ followed (followed inv.done (assignment_claims (parsed_assignment a) [])) (assignments_claims (map parsed_assignment new) [])
unfolding assignments_claims
next-split n first old new all a is inv = grind (arith, nat_tests, common_steps, followed-assoc)

pub placing-more : (n w first : Branch) (old new all : List Assignment) (a : Assignment) → old ≡ a ∷ new → Placing n old first all
    → Places n w (Ok tt) (assignment_claims (parsed_assignment a) []) (counts n) → Placing w new first all
placing-more n w first old new all a is inv placed = record {
  done = followed inv.done (assignment_claims (parsed_assignment a) []);
  split = next-split n first old new all a is inv;
  placed = placed-then first n w (Ok tt) inv.done (assignment_claims (parsed_assignment a) []) inv.placed placed;
}

pub placing-err : (n w first new : Branch) (old later all : List Assignment) (a : Assignment) (q : Result (Unit {0}) PlaceError) (e : PlaceError) → old ≡ a ∷ later → Placing n old first all → q ≡ Err e
    → Places n w (Err e) (assignment_claims (parsed_assignment a) []) (counts n) → Places first new q (assignments_claims (map parsed_assignment all) []) (counts first)
placing-err n w first new old later all a q (Memory m) is inv same placed before = rw same tt
placing-err n w first new old later all a q (Fault c) is inv same placed before =
    let now = placed-then first n w (Err (Fault c)) inv.done (assignment_claims (parsed_assignment a) []) inv.placed placed before in
    let split = next-split n first old later all a is inv in
    rw same (grind (arith, nat_tests, common_steps, reported-followed))

pub placing-none : (n first : Branch) (rest all : List Assignment) → rest ≡ [] → Placing n rest first all → Places first n (Ok tt) (assignments_claims (map parsed_assignment all) []) (counts first)
unfolding assignments_claims
placing-none n first rest all none inv = grind (arith, nat_tests, common_steps, followed-none)

-- ---- inline tables

map-plain : {A : Type 0} (f : A → Place) (o : Option A) → option_map (λ m. plain (f m)) o ≡ option_map plain (option_map f o)
map-plain f o = grind (arith, nat_tests, common_steps)

-- what assignments show inside their scope is what they show outside
shows-plain : (i : tree.Inner) (es : List ParsedAssignment) (st : CellMap) → st ≡ put_all no_cells (assignments_claims es []) → ShowsBelow i st → ShowsPlain i (show_all no_cells (assignments_claims es []))
shows-plain i es st is h s p =
    map-plain tree_place (reached (s ∷ p) (None, tree.node i (record { start = 0; end = 0 })))
    ∙ ap (option_map plain) (h s p ∙ ap (λ f. place_shown (f (s ∷ p))) is ∙ ap (option_map (λ d. d.place)) (put_all-shown (assignments_claims es []) (s ∷ p)))
    ∙ sym (shown-plain (assignments_claims es []) (s ∷ p) (assignments-no_header es []))

pub table-gives : (old new : Branch) (es : List ParsedAssignment) (table : BTreeMap Key Value) → IsFresh old → Places old new (Ok tt) (assignments_claims es []) (counts old)
    → Finishes (out-Branch new).tables (out-Branch new).values (Ok table) → ScopeGives (Ok table) (λ t. inner_view (Table t)) (assignments_claims es [])
table-gives old new es table fresh placed finished = grind (arith, nat_tests, common_steps, cells-fresh, scope-fresh, shows-plain)

-- what is borrowed correctly in the scope is so in the table, by the spans of its own keys
pub table-own : (text : List ℕ) (old new : Branch) (es : List ParsedAssignment) (t : BTreeMap Key Value) → IsFresh old → Places old new (Ok tt) (assignments_claims es []) (counts old)
    → Finishes (out-Branch new).tables (out-Branch new).values (Ok t) → AreBorrowedRight text (branch_strings new) → AreBorrowedRight text (own_table t.entries)
table-own text old new es t fresh placed finished right =
    let put = placed (scope-fresh old fresh) in
    let shows = table-gives old new es t fresh placed finished in
    let is : cells new ≡ put_all no_cells (assignments_claims es []) = put.1.0 ∙ ap (λ st. put_all st (assignments_claims es [])) (cells-fresh old fresh) in
    subst (AreBorrowedRight text)
    (table-spans (map (λ e. (e.0, strings_and_keys e.1)) t.entries) (key_spans (cells new)) (own_spans None (tree.node (tree.table (members_view t.entries)) (record { start = 0; end = 0 })))
    (λ s p.
    ap (λ st. key_spans st (s ∷ p)) is ∙ ap (option_map (λ d. d.key)) (put_all-shown (assignments_claims es []) (s ∷ p) ∙ sym (shows.1.0 s p))
    ∙ ap (λ i. own_spans None (tree.node i (record { start = 0; end = 0 })) (s ∷ p)) (inner_view-Table t)))
    ((finished new refl refl put.1.2.0).2 text right)

pub table-err : {A : Type 0} (old new : Branch) (es : List ParsedAssignment) (seen : A → tree.Inner) (q : Result A PlaceError) (e : PlaceError) → IsFresh old → q ≡ Err e
    → Places old new (Err e) (assignments_claims es []) (counts old) → ScopeGives q seen (assignments_claims es [])
table-err old new es seen q (Fault c) fresh same placed = grind (arith, nat_tests, common_steps, cells-fresh, scope-fresh)
table-err old new es seen q (Memory e) fresh same placed = rw same tt
