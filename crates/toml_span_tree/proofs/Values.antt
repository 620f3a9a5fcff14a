-- A value, one level at a time.
-- Toolchain: a fold cannot be unfolded outside its crate ("this module may not unfold: `fold-ValueInner`"). Cite
-- `inner_view-Table`, `inner_view-Array` and `view_is` instead. A recursion over `&Value` takes a measure of
-- `Sizes.antt`.
use Rattle.toml_span_lex.proofs.Common.{arith, common_steps, nat_tests, ◌≡◌, ℕ, List, [], ◌∷◌, Option, Some, option_map, is_some, BTreeMap, Vec, Global, nat_cmp, Bool, Bor, refl, rules, cow_str_bytes, slice_cmp, lookup, lookup_entry, is_at, is_eq-slice_cmp, unwrap_or}
use Rattle.toml_span_lex.specs.declared.key.Key.{Key}
use Rattle.toml_span_tree.specs.declared.value.Value.{Value}
use Rattle.toml_span_tree.specs.declared.value.ValueInner.{Array, Table, the_lemmas}
use Rattle.toml_span_tree.specs.Node.{node, array, table, entry_at, get_member, taken}
use Rattle.toml_span_tree.specs.Value.{view, inner_view, items_view, members_view}

abbrev pub Entry : Type 0
Entry = Key × Value

pub view_is : (v : Value) → view v ≡ node (unwrap_or (option_map inner_view v.value) taken) v.span
view_is v = search (rules, the_lemmas)

pub inner_view-Array : (v : Vec Value Global) → inner_view (Array v) ≡ array (items_view v.items)
inner_view-Array v = search (rules, the_lemmas)

pub inner_view-Table : (m : BTreeMap Key Value) → inner_view (Table m) ≡ table (members_view m.entries)
inner_view-Table m = search (rules, the_lemmas)

-- the test with which a look-up finds a name
abbrev pub at_name : List ℕ → Key → Bool
at_name name = is_at (λ k. slice_cmp nat_cmp name (cow_str_bytes k.name))

-- a look-up by name finds the member with that name
pub view-lookup : (name : List ℕ) (es : List Entry) → option_map view (lookup (at_name name) es) ≡ get_member name (members_view es)
view-lookup name [] = refl
view-lookup name (e ∷ es) = grind (arith, nat_tests, common_steps, is_eq-slice_cmp name (cow_str_bytes e.0.name), view-lookup name es)

-- the same, with the span of the key
pub entry_at-lookup : (name : List ℕ) (es : List Entry) → option_map (λ e. (Some e.0.span, view e.1)) (lookup_entry (at_name name) es) ≡ entry_at name (members_view es)
entry_at-lookup name [] = refl
entry_at-lookup name (e ∷ es) = grind (arith, nat_tests, common_steps, is_eq-slice_cmp name (cow_str_bytes e.0.name), entry_at-lookup name es)

pub is_some-view : (o : Option Value) → is_some o ≡ is_some (option_map view o)
is_some-view o = grind (arith, nat_tests, common_steps)

pub view-of_ref : (r : Option (Bor Value)) → option_map (λ x. view x.now) r ≡ option_map view (option_map (λ x. x.now) r)
view-of_ref r = grind (arith, nat_tests, common_steps)
