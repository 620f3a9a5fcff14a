-- Replacing a value below another one, one level at a time.
use Rattle.toml_span_lex.proofs.Common.{option_map, arith, common_steps, nat_tests, ◌≡◌, ℕ, zero, suc, List, [], ◌∷◌, false, Option, Some, None, Result, option_and_then, refl, sym, ap, ◌∙◌, cow_str_bytes, set_value, lookup, MutBor, length, is_eq-slice_cmp, IfOk, IfErr}
use Rattle.std.proofs.Math.ListN.{set}
use Rattle.toml_span_lex.specs.declared.span.Span.{Span}
use Rattle.toml_span_tree.specs.declared.value.Value.{Value}
use Rattle.toml_span_tree.specs.declared.value.ValueInner.{ValueInner}
use Rattle.toml_span_tree.specs.Node.{Node, node, Inner, table, Items, no_items, item, Members, no_members, member, get_member, get_item}
use Rattle.toml_span_tree.specs.Value.{view, inner_view, items_view, members_view, inner_of, span_of, is_taken}
use Rattle.toml_span_tree.specs.Path.{set_entry, set_element}
use Rattle.toml_span_tree.specs.Pointer.{if_not_taken, segments, pointer_segments, pointed, put_pointed}
use Rattle.toml_span_tree.specs.code.Pointer.{entry, untaken_entry, value_named, put_named, set_named, segments_after, SplitAtSlash, Exchanged}
use Rattle.toml_span_tree.proofs.Values.{Entry, view_is, at_name, view-lookup}
use Rattle.toml_span_tree.proofs.Pointers.{found-cut, pointer-empty, view-of_mut}

pub view-made : (i : ValueInner) (span : Span) → view (record { value = Some i; span = span }) ≡ node (inner_view i) span
view-made i span = view_is (record { value = Some i; span = span })

-- what is written through `get_mut`
pub view-set_value : (name : List ℕ) (es : List Entry) (w : Value) → members_view (set_value (at_name name) es w) ≡ set_entry name (view w) (members_view es)
view-set_value name [] w = refl
view-set_value name (e ∷ es) w = grind (arith, nat_tests, common_steps, is_eq-slice_cmp name (cow_str_bytes e.0.name), view-set_value name es w)

pub view-set : (vs : List Value) (i : ℕ) (w : Value) → items_view (set vs i w) ≡ set_element i (view w) (items_view vs)
view-set [] i w = refl
view-set (v ∷ vs) zero w = refl
view-set (v ∷ vs) (suc i) w = ap (item (view v)) (view-set vs i w)

-- what `get_mut` lends
pub member-lent : (y : Option (MutBor Value)) (name : List ℕ) (es : List Entry) → option_map (λ x. x.now) y ≡ lookup (at_name name) es → option_map (λ v. view v.now) y ≡ get_member name (members_view es)
member-lent y name es e = view-of_mut y ∙ ap (option_map view) e ∙ view-lookup name es

pub member-is : (y : Option (MutBor Value)) (x : MutBor Value) (name : List ℕ) (es : List Entry) → option_map (λ x. x.now) y ≡ lookup (at_name name) es → y ≡ Some x → get_member name (members_view es) ≡ Some (view x.now)
member-is y x name es e is = sym (member-lent y name es e) ∙ ap (option_map (λ u. view u.now)) is

-- writing the value that is already there changes nothing
pub set_entry-same : (name : List ℕ) (ms : Members) (m : Node) → get_member name ms ≡ Some m → set_entry name m ms ≡ ms
set_entry-same name no_members m h = refl
set_entry-same name (member other span n ms) m h = grind (arith, nat_tests, common_steps, set_entry-same name ms m)

pub set_element-same : (i : ℕ) (ns : Items) (m : Node) → get_item i ns ≡ Some m → set_element i m ns ≡ ns
set_element-same i no_items m h = refl
set_element-same zero (item n ns) m h = cc
set_element-same (suc i) (item n ns) m h = ap (item n) (set_element-same i ns m h)

-- a replacement at or below m, seen from the value that contains m
pub exchanged-in : (r : Result Value Value) (new : Value) (names : List (List ℕ)) (o : Option Node) (m after : Node) (changed : Node → Type 0) (same : Type 0)
    → o ≡ Some m → changed after → (after ≡ m → same) → Exchanged r new names (if_not_taken m) (λ w. after ≡ w) (after ≡ m) → Exchanged r new names (option_and_then if_not_taken o) changed same
exchanged-in r new names o m after changed same is made kept h = grind (arith, nat_tests, common_steps)

-- if nothing is named
pub exchanged-none : (new : Value) (names : List (List ℕ)) (o : Option Node) (same : Type 0) → o ≡ None → same → (new ≡ new) × (option_and_then (value_named names) (option_and_then if_not_taken o) ≡ None) × same
exchanged-none new names o same is kept = grind (arith, nat_tests, common_steps)

-- the same replacement, with the change stated differently
pub exchanged-as : (r : Result Value Value) (new : Value) (names : List (List ℕ)) (o p : Option Node) (changed told : Node → Type 0) (same kept : Type 0)
    → o ≡ p → ((w : Node) → changed w → told w) → (same → kept) → Exchanged r new names o changed same → Exchanged r new names p told kept
exchanged-as r new names o p changed told same kept is f g h = grind (arith, nat_tests, common_steps)

-- a value itself
pub if_not_taken-false : (n : Node) → is_taken n ≡ false → if_not_taken n ≡ Some n
if_not_taken-false n h = grind (arith, nat_tests, common_steps)

pub put_found-more : (segment : List ℕ) (names : List (List ℕ)) (n m w old : Node) → untaken_entry segment n ≡ Some m → value_named names m ≡ Some old
    → put_named (segment ∷ names) w n ≡ node (set_named segment (put_named names w m) (inner_of n)) (span_of n)
put_found-more segment names n m w old leads there = grind (arith, nat_tests, common_steps)

-- a replacement in the content of n is one in n
pub exchanged-cut : (r : Result Value Value) (new : Value) (path segment : List ℕ) (rest : Option (List ℕ)) (i j : Inner) (span : Span) → SplitAtSlash path segment rest
    → Exchanged r new (segments_after rest) (option_and_then if_not_taken (entry segment i)) (λ w. j ≡ set_named segment w i) (j ≡ i)
    → Exchanged r new (segments path) (Some (node i span)) (λ w. node j span ≡ w) (node j span ≡ node i span)
exchanged-cut r new path segment rest i j span cut h =
    grind (arith, nat_tests, common_steps, found-cut path segment rest (node i span) cut, put_found-more segment (segments_after rest) (node i span), cut.parts)

-- a replacement at the place that a pointer names
pub put_pointed-found : (p : List ℕ) (names : List (List ℕ)) (w n : Node) → pointer_segments p ≡ Some names → put_pointed p w n ≡ put_named names w n
put_pointed-found p names w n h = grind (arith, nat_tests, common_steps)

pub put-empty : (p : List ℕ) (n w : Node) → length p ≡ 0 → w ≡ put_pointed p w n
put-empty p n w h = sym (put_pointed-found p [] w n (pointer-empty p h))

pub exchanged-done : (r : Result Value Value) (new : Value) (p : List ℕ) (names : List (List ℕ)) (n after : Node) → pointer_segments p ≡ Some names
    → Exchanged r new names (Some n) (λ w. after ≡ w) (after ≡ n) → IfOk r (λ old. (pointed p n ≡ Some (view old)) × (after ≡ put_pointed p (view new) n))
exchanged-done r new p names n after is h = grind (arith, nat_tests, common_steps)

pub exchanged-refused : (r : Result Value Value) (new : Value) (p : List ℕ) (names : List (List ℕ)) (n after : Node) → pointer_segments p ≡ Some names
    → Exchanged r new names (Some n) (λ w. after ≡ w) (after ≡ n) → IfErr r (λ back. (back ≡ new) × (pointed p n ≡ None) × (after ≡ n))
exchanged-refused r new p names n after is h = grind (arith, nat_tests, common_steps)

-- a replacement in a table that has not been taken
pub exchanged-table : (r : Result Value Value) (new : Value) (names : List (List ℕ)) (segment : List ℕ) (ms ns : Members) (i j : Inner) → i ≡ table ms → j ≡ table ns
    → Exchanged r new names (option_and_then if_not_taken (get_member segment ms)) (λ w. ns ≡ set_entry segment w ms) (ns ≡ ms)
    → Exchanged r new names (option_and_then if_not_taken (entry segment i)) (λ w. j ≡ set_named segment w i) (j ≡ i)
exchanged-table r new names segment ms ns i j was is h = grind (arith, nat_tests, common_steps)
