-- The members of a JSON object, inserted in the order of their names.
use Rattle.std.proofs.Common.{◌≡◌, List, [], ◌∷◌, ◌++◌, Less, Greater, map, nat_cmp, refl, ap, ◌∙◌}
use Rattle.std.proofs.lemmas.Cmp.{nat_list_cmp_total}
use Rattle.std.specs.Cmp.Lexicographic.{slice_cmp}
use Rattle.std.specs.Cow.{cow_str_bytes}
use Rattle.std.specs.List.{AllByRecursion}
use Rattle.std.specs.List.Sorted.{IsStrictlySortedBy}
use Rattle.std.specs.Map.{keys_of}
use Rattle.std.specs.Ordering.{ordering_reverse}
use Rattle.std.specs.declared.cmp.Ordering.{Ordering}
use Rattle.serde_json.specs.Data as json
use Rattle.serde_json.specs.View as made
use Rattle.toml_span_lex.specs.declared.key.Key.{Key}
use Rattle.toml_span_tree.specs.declared.value.Value.{Value}
use Rattle.toml_span_tree.specs.Value.{view, items_view, members_view}
use Rattle.toml_span_tree.specs.Json.{json_of, json_items, json_members}
use Rattle.toml_span_tree.proofs.Values.{Entry}

-- the order of keys
abbrev pub key_cmp : Key → Key → Ordering
key_cmp x y = slice_cmp nat_cmp (cow_str_bytes x.name) (cow_str_bytes y.name)

below_middle : (first : Entry) (es : List Entry) (e : Entry) (more : List Entry) → AllByRecursion (λ y. key_cmp first.0 y ≡ Less) (keys_of (es ++ e ∷ more)) → key_cmp first.0 e.0 ≡ Less
below_middle first [] e more h = h.0
below_middle first (x ∷ es) e more h = below_middle first es e more h.1

-- a key that is greater than those before it is inserted last
pub put_last : (done : List Entry) (e : Entry) (more : List Entry) → IsStrictlySortedBy key_cmp (keys_of (done ++ e ∷ more))
    → json.put (cow_str_bytes e.0.name) (json_of (view e.1)) (json_members (members_view done)) ≡ json_members (members_view (done ++ e ∷ []))
unfolding IsStrictlySortedBy
put_last [] e more h = refl
put_last (first ∷ done) e more h =
    let above : slice_cmp nat_cmp (cow_str_bytes e.0.name) (cow_str_bytes first.0.name) ≡ Greater =
    nat_list_cmp_total.antisymm (cow_str_bytes e.0.name) (cow_str_bytes first.0.name) ∙ ap ordering_reverse (below_middle first done e more h.0) in
    rw above (ap (json.member (cow_str_bytes first.0.name) (json_of (view first.1))) (put_last done e more h.1))

-- the elements, each made from one of the array
pub json_items-map : (vs : List Value) → made.items_of (map (λ v. json_of (view v)) vs) ≡ json_items (items_view vs)
json_items-map [] = refl
json_items-map (v ∷ vs) = ap (json.item (json_of (view v))) (json_items-map vs)
