-- What finished values show, and the clashes in them.
use Rattle.std.specs.Option.{option_or}
use Rattle.toml_span_lex.proofs.Common.{◌≡◌, ℕ, zero, suc, ◌+◌, ◌<◌, ◌≤◌, false, List, [], ◌∷◌, ◌++◌, map, Option, Some, None, option_map, Result, Ok, Err, Vec, Global, refl, sym, ap, ◌∙◌, append_assoc, append-nil, arith, option_and_then, AllZip, nat_tests, common_steps}
use Rattle.std.proofs.lemmas.Bool.{ne_eqb}
use Rattle.toml_span_tree.specs.Node as tree
use Rattle.toml_span_tree.specs.Node.{Scalar, text, integer, float, boolean, datetime, element_at}
use Rattle.toml_span_tree.specs.Path.{Path, Step, key, position, reached, shape_of as tree_shape, place_of as tree_place}
use Rattle.toml_span_tree.specs.Value.{view, inner_view, items_view}
use Rattle.toml_span_tree.specs.declared.value.Value.{Value}
use Rattle.toml_span_tree.specs.declared.value.ValueInner.{ValueInner}
use Rattle.toml_span_tree.specs.declared.value.ValueInner.TheVariants as inners
use Rattle.toml_span_tree.proofs.Values.{inner_view-Array}
use Rattle.toml_span_read.specs.Data.{ParsedValue as Read, parsed, ParsedInner, scalar, array, inline, parsed_span, ParsedItems, no_items, item, no_pairs, onto, pairs_onto, parsed_value as view_read, parsed_kind, parsed_assignment}
use Rattle.toml_span_read.specs.declared.value.Assignment.{Assignment}
use Rattle.toml_span_read.specs.declared.value.Val.{Val}
use Rattle.toml_span_read.specs.declared.value.ValKind.{ValKind}
use Rattle.toml_span_read.specs.declared.value.ValKind.TheVariants as kinds
use Rattle.toml_span_read.proofs.Views.{view_is, kind_view-Array, kind_view-Inline}
use Rattle.toml_span.specs.code.ClaimInfos.{PlaceError}
use Rattle.toml_span_lex.specs.declared.stop.Stop.TheVariants.{Memory, Fault}
use Rattle.toml_span_read.specs.Paths.{same_step, same_path}
use Rattle.toml_span_lex.specs.declared.span.Span.{Span}
use Rattle.toml_span.specs.Claims.{Claim, Claims, no_claims, claimed, scope, followed, value_claims, inner_claims, item_claims, assignments_claims, element, value_shape}
use Rattle.toml_span.specs.Clashes.{NamedClash}
use Rattle.toml_span.specs.code.Machine.{Cell, CellMap, no_cells, no_cell, change, with_claim, with_inner, show_all, put_all, clash_found, graft}
use Rattle.toml_span.specs.Ordered.{HoldsOrdered, AreOrdered}
use Rattle.toml_span.specs.code.Placing.{IsFinished, ValueGives, ShowsPlain, ScopeGives}
use Rattle.toml_span.specs.code.Relative.{under}
use Rattle.toml_span.specs.code.Tree.{value_shows, plain}
use Rattle.toml_span.proofs.Absolute.{item_claims-under, pairs-assignments, value_claims-under}
use Rattle.toml_span.proofs.Grafts.{or_else-none, put_all-under, show_all-followed, show_all-under, sub-graft, reported-followed, reported-under}
use Rattle.toml_span.proofs.EachClaim.{Each, value-each}

-- ---- the claims of a value are on paths below it

abbrev pub IsBelow : Claim → Type 0
IsBelow c = same_path c.path [] ≡ false

not_here : (p : Path) (s : Step) → same_path (p ++ (s ∷ [])) [] ≡ false
unfolding same_path
not_here [] s = refl
not_here (t ∷ p) s = refl

pub value_below : (v : Read) (p : Path) → Each IsBelow (value_claims v p)
value_below = value-each IsBelow (λ p k v. not_here p (key k.name)) (λ p k v. not_here p (key k.name)) (λ p i v. not_here p (position i))

pub show_all-here : (st : CellMap) (cs : Claims) → Each IsBelow cs → show_all st cs [] ≡ st []
unfolding show_all change
show_all-here st no_claims h = refl
show_all-here st (claimed c cs) h = show_all-here (change st c.path (with_inner c)) cs h.1 ∙ rw h.0
show_all-here st (scope inner cs) h = show_all-here (show_all st inner) cs h.1 ∙ show_all-here st inner h.0

-- what a path shows depends on what that path showed before
pub show_all-local : (f g : CellMap) (cs : Claims) (p : Path) → f p ≡ g p → show_all f cs p ≡ show_all g cs p
unfolding show_all change
show_all-local f g no_claims p same = same
show_all-local f g (claimed c cs) p same = grind (arith, nat_tests, common_steps, show_all-local (change f c.path (with_inner c)) (change g c.path (with_inner c)) cs p)
show_all-local f g (scope inner cs) p same = grind (arith, nat_tests, common_steps, show_all-local (show_all f inner) (show_all g inner) cs p, show_all-local f g inner p same)

-- ---- a value is a scope, or has no claims

pub reported-value : (st : CellMap) (v : Read) (p : Path) → clash_found st (value_claims v p) ≡ clash_found no_cells (value_claims v p)
unfolding clash_found value_claims inner_claims
reported-value st (parsed (scalar s) span) p = refl
reported-value st (parsed (array vs) span) p = refl
reported-value st (parsed (inline ps) span) p = refl

pub put_all-value : (st : CellMap) (v : Read) (p : Path) → put_all st (value_claims v p) ≡ show_all st (value_claims v p)
unfolding put_all show_all value_claims inner_claims
put_all-value st (parsed (scalar s) span) p = refl
put_all-value st (parsed (array vs) span) p = refl
put_all-value st (parsed (inline ps) span) p = refl

-- ---- elements, one after another

-- what has been made of the items of a list, once all but those in `left` are done
pub record Made (A B : Type 0) (R : A → B → Type 0) (all left : List A) (made : List B) : Type 0 where
  pub done : List A
  pub split : all ≡ done ++ left
  pub become : AllZip R done made

pub made-more : (A B : Type 0) (R : A → B → Type 0) (all old left : List A) (xs ys : List B) (v : A) (x : B) → old ≡ v ∷ left → Made A B R all old xs → R v x → ys ≡ xs ++ (x ∷ []) → Made A B R all left ys
made-more A B R all old left xs ys v x is h become more = record {
  done = h.done ++ (v ∷ []);
  split = h.split ∙ ap (λ l. h.done ++ l) is ∙ sym (append_assoc h.done (v ∷ []) left);
  become = rw more (push h.done xs h.become);
}
  where
    push : (ns : List A) (ms : List B) → AllZip R ns ms → AllZip R (ns ++ (v ∷ [])) (ms ++ (x ∷ []))
    push [] ms h = grind (arith, nat_tests, common_steps)
    push (n ∷ ns) ms h = grind (arith, nat_tests, common_steps, push ns)

abbrev pub IsMade : Val → Value → Type 0
IsMade v x = ValueGives (Ok x) (view_read v)

abbrev pub Elements : List Val → List Val → List Value → Type 0
Elements rest all xs = Made Val Value IsMade all rest xs

pub elements-first : (rest all : List Val) (xs : List Value) → rest ≡ all → xs ≡ [] → Elements rest all xs
elements-first rest all xs same none = record { done = []; split = sym same; become = rw none tt }

-- an element claims its position, and the value inside it makes the claims below
abbrev own : Read → Claims
own v = claimed (element [] v) (value_claims v [])

item-under : (v : Read) (vs : ParsedItems) (i : ℕ) → item_claims (item v vs) i [] ≡ followed (under (position i) (own v)) (item_claims vs (suc i) [])
unfolding item_claims followed under
item-under v vs i = ap (λ t. claimed (element (position i ∷ []) v) (followed t (item_claims vs (suc i) []))) (value_claims-under v (position i) [])

apart : (i l : ℕ) → i < l → same_step (position i) (position l) ≡ false
apart i l h = ne_eqb i l (λ same. absurd (omega (arith, same)))

-- ---- the clash: the first one in an element

unfoldable pub first_in : ParsedItems → Option NamedClash
first_in no_items = None
first_in (item v vs) = option_or (clash_found no_cells (value_claims v [])) (first_in vs)

reported-items : (vs : ParsedItems) (i : ℕ) (st : CellMap) → ((l : ℕ) → i ≤ l → (st (position l ∷ [])).infos ≡ []) → clash_found st (item_claims vs i []) ≡ first_in vs
unfolding clash_found item_claims first_in graft
reported-items no_items i st none = refl
reported-items (item v vs) i st none =
    let rest = item_claims vs (suc i) [] in
    let below = λ (q : Path). st (position i ∷ q) in
    let next = put_all st (under (position i) (own v)) in
    let here : clash_found below (own v) ≡ clash_found no_cells (value_claims v []) = rw (none i (omega arith)) (reported-value (change below [] (with_claim (element [] v))) v []) in
    ap (clash_found st) (item-under v vs i) ∙ reported-followed st (under (position i) (own v)) rest
    ∙ ap (λ o. option_or o (clash_found next rest)) (reported-under (position i) st (own v) ∙ here)
    ∙ ap (option_or (clash_found no_cells (value_claims v []))) (reported-items vs (suc i) next
    (λ l past. ap (λ f. (f (position l ∷ [])).infos) (put_all-under (position i) st (own v)) ∙ rw (apart i l (omega arith)) (none l (omega arith))))

-- at any path
pub reported-array : (vs : ParsedItems) (p : Path) → clash_found no_cells (item_claims vs 0 p) ≡ first_in vs
reported-array vs [] = reported-items vs 0 no_cells (λ l past. refl)
reported-array vs (s ∷ p) = ap (clash_found no_cells) (item_claims-under vs 0 s p) ∙ reported-under s no_cells (item_claims vs 0 p) ∙ reported-array vs p

reported-finished : (vs : List Val) (xs : List Value) → AllZip IsMade vs xs → first_in (onto (map view_read vs) no_items) ≡ None
unfolding first_in
reported-finished [] [] h = refl
reported-finished (v ∷ vs) (x ∷ xs) h = rw (h.0.0) (reported-finished vs xs h.1)
reported-finished ns ms h = absurd h

-- the first clash in an element after them
reported-element : (vs : List Val) (xs : List Value) (v : Val) (more : List Val) (t : NamedClash) → AllZip IsMade vs xs
    → clash_found no_cells (value_claims (view_read v) []) ≡ Some t → first_in (onto (map view_read (vs ++ (v ∷ more))) no_items) ≡ Some t
unfolding first_in
reported-element [] [] v more t h is = rw is
reported-element (w ∷ vs) (x ∷ xs) v more t h is = rw (h.0.0) (reported-element vs xs v more t h.1 is)
reported-element ns ms v more t h is = absurd h

-- ---- what elements show

abbrev beyond : CellMap → ℕ → Read → CellMap
beyond st i v = graft (position i) st (show_all (λ q. st (position i ∷ q)) (own v))

show_all-item : (st : CellMap) (i : ℕ) (v : Read) (vs : ParsedItems) → show_all st (item_claims (item v vs) i []) ≡ show_all (beyond st i v) (item_claims vs (suc i) [])
show_all-item st i v vs = grind (arith, nat_tests, common_steps, item-under, show_all-followed, show_all-under)

-- elements from i on change nothing elsewhere
items-apart : (vs : ParsedItems) (i : ℕ) (st : CellMap) (s : Step) (p : Path) → ((l : ℕ) → i ≤ l → same_step (position l) s ≡ false) → show_all st (item_claims vs i []) (s ∷ p) ≡ st (s ∷ p)
unfolding show_all item_claims graft
items-apart no_items i st s p other = refl
items-apart (item v vs) i st s p other =
    ap (λ f. f (s ∷ p)) (show_all-item st i v vs) ∙ items-apart vs (suc i) (beyond st i v) s p (λ l past. other l (omega arith)) ∙ rw (other i (omega arith)) refl

-- a value shows what was claimed, if there was nothing before
pub value-shown : (v : Read) (x : Value) (at : Option Span) (f : Cell → Cell) → IsFinished v x → (f no_cell).shown ≡ Some (plain (record { shape = value_shape v; key_span = at; span = parsed_span v }))
    → (p : Path) → (show_all (change no_cells [] f) (value_claims v []) p).shown ≡ value_shows at (view x) p
unfolding change same_path
value-shown v x at f h is [] = ap (λ c. c.shown) (show_all-here (change no_cells [] f) (value_claims v []) (value_below v [])) ∙ is ∙ ap (λ m. Some (plain m)) (sym (h.0 at))
value-shown v x at f h is (s ∷ p) = ap (λ c. c.shown) (show_all-local (change no_cells [] f) no_cells (value_claims v []) (s ∷ p) refl) ∙ sym (h.1 s p)

-- below its position an element shows what the value shows
element-shown : (st : CellMap) (i : ℕ) (v : Read) (x : Value) (p : Path) → (λ q. st (position i ∷ q)) ≡ no_cells → IsFinished v x → (beyond st i v (position i ∷ p)).shown ≡ value_shows None (view x) p
unfolding show_all
element-shown st i v x p clear finished =
    ap (λ f. (f p).shown) (sub-graft (position i) st (show_all (λ q. st (position i ∷ q)) (own v)) ∙ ap (λ f. show_all f (own v)) clear)
    ∙ value-shown v x None (with_inner (element [] v)) finished refl p

items-shown : (vs : List Val) (xs : List Value) (i j l : ℕ) (st : CellMap) (p : Path) → AllZip IsMade vs xs → ((l : ℕ) (p : Path) → i ≤ l → st (position l ∷ p) ≡ no_cell) → l ≡ i + j
    → (show_all st (item_claims (onto (map view_read vs) no_items) i []) (position l ∷ p)).shown ≡ option_map (λ m. plain (tree_place m)) (option_and_then (reached p) (element_at j (items_view xs)))
unfolding show_all item_claims graft
items-shown [] [] i j l st p h clear is = ap (λ c. c.shown) (clear l p (omega arith))
items-shown (v ∷ vs) (x ∷ xs) i zero l st p h clear is = grind (arith, nat_tests, common_steps, element-shown, items-apart, ne_eqb, show_all-item)
items-shown (v ∷ vs) (x ∷ xs) i (suc j) l st p h clear is =
    ap (λ f. (f (position l ∷ p)).shown) (show_all-item st i (view_read v) (onto (map view_read vs) no_items))
    ∙ items-shown vs xs (suc i) j l (beyond st i (view_read v)) p h.1 (λ l p past. rw (apart i l (omega arith)) (clear l p (omega arith))) (omega arith)
items-shown ns ms i j l st p h clear is = absurd h

-- the elements show what their claims show
items-plain : (vs : List Val) (xs : List Value) → AllZip IsMade vs xs → ShowsPlain (tree.array (items_view xs)) (show_all no_cells (item_claims (onto (map view_read vs) no_items) 0 []))
items-plain vs xs h v3 p = grind (arith, nat_tests, common_steps, items-apart, items-shown)

-- and each is in order
items-ordered : (vs : List Val) (xs : List Value) → AllZip IsMade vs xs → AreOrdered (items_view xs)
items-ordered [] xs h = grind (arith, nat_tests, common_steps)
items-ordered (v ∷ vs) xs h = grind (arith, nat_tests, common_steps, items-ordered vs)

pub elements-err : {A : Type 0} (old later all : List Val) (v : Val) (xs : List Value) (seen : A → tree.Inner) (q : Result A PlaceError) (e : PlaceError) → old ≡ v ∷ later → Elements old all xs → q ≡ Err e
    → ValueGives (Err e) (view_read v) → ScopeGives q seen (item_claims (onto (map view_read all) no_items) 0 [])
elements-err old later all v xs seen q (Fault c) is inv same gives = grind (arith, nat_tests, common_steps, reported-array, reported-element)
elements-err old later all v xs seen q (Memory e) is inv same gives = rw same tt

pub elements-none : (rest all : List Val) (xs : Vec Value Global) → rest ≡ [] → Elements rest all xs.items
    → ScopeGives (Ok xs) (λ xs. inner_view (inners.Array xs)) (item_claims (onto (map view_read all) no_items) 0 [])
elements-none rest all xs none inv = grind (arith, nat_tests, common_steps, append-nil, inner_view-Array, items-ordered, items-plain, reported-array, reported-finished)

-- ---- what was read, by kind

value-gives : (v : Val) (k : ParsedInner) (i : tree.Inner) (x : Value) → parsed_kind v.kind ≡ k → view x ≡ tree.node i v.span → tree_shape i ≡ value_shape (parsed k v.span)
    → clash_found no_cells (inner_claims k []) ≡ None → ShowsPlain i (show_all no_cells (inner_claims k [])) → HoldsOrdered i → ValueGives (Ok x) (view_read v)
unfolding value_claims
value-gives v k i x kind seen shape clear shows ordered = grind (arith, nat_tests, common_steps, view_is)

scalar-shows : (x : Scalar) → ShowsPlain (tree.scalar x) no_cells
scalar-shows x v1 p = grind (arith, nat_tests, common_steps)

pub scalar-gives : (v : Val) (inner i : ValueInner) (kind : ValKind) (x : Value) (s : Scalar) → v.kind ≡ kind → inner ≡ i → parsed_kind kind ≡ scalar s → inner_view i ≡ tree.scalar s → view x ≡ tree.node (inner_view inner) v.span
    → ValueGives (Ok x) (view_read v)
unfolding clash_found show_all inner_claims
scalar-gives v inner i kind x s is made read seen shown =
    value-gives v (scalar s) (tree.scalar s) x (ap parsed_kind is ∙ read) (shown ∙ ap (λ i. tree.node (inner_view i) v.span) made ∙ ap (λ i. tree.node i v.span) seen) refl refl (scalar-shows s) tt

-- ---- arrays and inline tables

-- a value that was read is a scope of these claims
abbrev pub ReadsScope : Val → ParsedInner → Claims → Type 0
ReadsScope v k cs = (parsed_kind v.kind ≡ k) × (inner_claims k [] ≡ scope cs no_claims)

pub array-reads : (v : Val) (vs : Vec Val Global) → v.kind ≡ kinds.Array vs
    → ReadsScope v (array (onto (map view_read vs.items) no_items)) (item_claims (onto (map view_read vs.items) no_items) 0 [])
unfolding inner_claims
array-reads v vs is = (ap parsed_kind is ∙ kind_view-Array vs, refl)

pub inline-reads : (v : Val) (ps : Vec Assignment Global) → v.kind ≡ kinds.Inline ps
    → ReadsScope v (inline (pairs_onto (map parsed_assignment ps.items) no_pairs)) (assignments_claims (map parsed_assignment ps.items) [])
unfolding inner_claims
inline-reads v ps is = (ap parsed_kind is ∙ kind_view-Inline ps, ap (λ cs. scope cs no_claims) (pairs-assignments (map parsed_assignment ps.items) []))

pub scope-gives : (v : Val) (k : ParsedInner) (cs : Claims) (inner i : ValueInner) (x : Value) → ReadsScope v k cs → inner ≡ i
    → view x ≡ tree.node (inner_view inner) v.span → tree_shape (inner_view i) ≡ value_shape (parsed k v.span)
    → (clash_found no_cells cs ≡ None) × (ShowsPlain (inner_view i) (show_all no_cells cs) × HoldsOrdered (inner_view i)) → ValueGives (Ok x) (view_read v)
unfolding clash_found show_all
scope-gives v k cs inner i x reads is seen shape whole =
    value-gives v k (inner_view i) x reads.0 (seen ∙ ap (λ i. tree.node (inner_view i) v.span) is) shape (ap (clash_found no_cells) reads.1 ∙ or_else-none (clash_found no_cells cs) ∙ whole.0)
    (λ s p. whole.1.0 s p ∙ ap (λ f. (f (s ∷ p)).shown) (ap (show_all no_cells) (sym reads.1))) whole.1.1

pub scope-err : {A : Type 0} (v : Val) (k : ParsedInner) (cs : Claims) (seen : A → tree.Inner) (q : Result Value PlaceError) (e : PlaceError) → ReadsScope v k cs → q ≡ Err e
    → ScopeGives (Err e) seen cs → ValueGives q (view_read v)
unfolding value_claims clash_found
scope-err v k cs seen q (Fault c) reads same gives = grind (arith, nat_tests, common_steps, or_else-none, view_is)
scope-err v k cs seen q (Memory e) reads same gives = rw same tt
