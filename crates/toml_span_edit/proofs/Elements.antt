-- Arrays that are the same except for one element, in two parts: before it and after it.
use Rattle.toml_span_lex.proofs.Common.{arith, nat_tests, common_steps, ◌≡◌, ◌≤◌, ◌<◌, ℕ, zero, suc, ◌+◌, ◌^◌, List, [], ◌∷◌, Option, Some, None, length, take, drop, Bool, true, false, ◌&&◌, refl, sym, ap, ◌∙◌}
use Rattle.toml_span_tree.specs.declared.value.Value.{Value}
use Rattle.toml_span_tree.specs.Value.{items_view}
use Rattle.toml_span_tree.specs.code.Pointer.{PositionIs}
use Rattle.toml_span_edit.specs.Made.{at_position, items_but, item_gone, only_item}
use Rattle.toml_span_edit.specs.Same.{same_items}

and_assoc : (a b c : Bool) → ((a && b) && c) ≡ (a && (b && c))
and_assoc true b c = refl
and_assoc false b c = refl

pub short_but : (i : ℕ) (ns ks : List Value) → length ns ≤ i → items_but i (items_view ns) (items_view ks) ≡ false
short_but zero [] ks h = refl
short_but (suc i) [] ks h = refl
short_but zero (n ∷ ns) ks h = absurd (omega arith)
short_but (suc i) (n ∷ ns) [] h = refl
short_but (suc i) (n ∷ ns) (k ∷ ks) h = grind (arith, nat_tests, common_steps, short_but i ns ks (omega arith))

pub few_but : (i : ℕ) (ns ks : List Value) → length ks ≤ i → items_but i (items_view ns) (items_view ks) ≡ false
few_but zero [] ks h = refl
few_but (suc i) [] ks h = refl
few_but zero (n ∷ ns) [] h = refl
few_but zero (n ∷ ns) (k ∷ ks) h = absurd (omega arith)
few_but (suc i) (n ∷ ns) [] h = refl
few_but (suc i) (n ∷ ns) (k ∷ ks) h = grind (arith, nat_tests, common_steps, few_but i ns ks (omega arith))

pub parts_but : (i j : ℕ) (ns ks : List Value) → j ≡ i + 1 → i < length ns → i < length ks →
    items_but i (items_view ns) (items_view ks)
    ≡ (same_items (items_view (take i ns)) (items_view (take i ks)) && same_items (items_view (drop j ns)) (items_view (drop j ks)))
parts_but i zero ns ks e h g = absurd (omega arith)
parts_but zero (suc j) [] ks e h g = absurd (omega arith)
parts_but (suc i) (suc j) [] ks e h g = absurd (omega arith)
parts_but zero (suc j) (n ∷ ns) [] e h g = absurd (omega arith)
parts_but (suc i) (suc j) (n ∷ ns) [] e h g = absurd (omega arith)
parts_but zero (suc j) (n ∷ ns) (k ∷ ks) e h g = let z : j ≡ 0 = omega arith in grind (arith, nat_tests, common_steps)
parts_but (suc i) (suc j) (n ∷ ns) (k ∷ ks) e h g =
    grind (arith, nat_tests, common_steps, and_assoc, parts_but i j ns ks (omega arith) (omega arith) (omega arith))

pub short_gone : (i : ℕ) (ns ks : List Value) → length ns ≤ i → item_gone i (items_view ns) (items_view ks) ≡ false
short_gone zero [] ks h = refl
short_gone (suc i) [] ks h = refl
short_gone zero (n ∷ ns) ks h = absurd (omega arith)
short_gone (suc i) (n ∷ ns) [] h = refl
short_gone (suc i) (n ∷ ns) (k ∷ ks) h = grind (arith, nat_tests, common_steps, short_gone i ns ks (omega arith))

pub few_gone : (i : ℕ) (ns ks : List Value) → length ks < i → item_gone i (items_view ns) (items_view ks) ≡ false
few_gone zero ns ks h = absurd (omega arith)
few_gone (suc i) [] ks h = refl
few_gone (suc i) (n ∷ ns) [] h = refl
few_gone (suc i) (n ∷ ns) (k ∷ ks) h = grind (arith, nat_tests, common_steps, few_gone i ns ks (omega arith))

pub parts_gone : (i j : ℕ) (ns ks : List Value) → j ≡ i + 1 → i < length ns → i ≤ length ks →
    item_gone i (items_view ns) (items_view ks)
    ≡ (same_items (items_view (take i ns)) (items_view (take i ks)) && same_items (items_view (drop j ns)) (items_view (drop i ks)))
parts_gone i zero ns ks e h g = absurd (omega arith)
parts_gone zero (suc j) [] ks e h g = absurd (omega arith)
parts_gone (suc i) (suc j) [] ks e h g = absurd (omega arith)
parts_gone (suc i) (suc j) (n ∷ ns) [] e h g = absurd (omega arith)
parts_gone zero (suc j) (n ∷ ns) ks e h g = let z : j ≡ 0 = omega arith in grind (arith, nat_tests, common_steps)
parts_gone (suc i) (suc j) (n ∷ ns) (k ∷ ks) e h g =
    grind (arith, nat_tests, common_steps, and_assoc, parts_gone i j ns ks (omega arith) (omega arith) (omega arith))

-- a position past every list is past these ones
pub past_but : (o : Option ℕ) (ns ks : List Value) → PositionIs None o → length ns < 2 ^ 64 →
    at_position (λ i. items_but i (items_view ns) (items_view ks)) o ≡ false
past_but None ns ks h g = refl
past_but (Some i) ns ks h g = short_but i ns ks (omega arith)

pub past_gone : (o : Option ℕ) (ns ks : List Value) → PositionIs None o → length ns < 2 ^ 64 →
    at_position (λ i. item_gone i (items_view ns) (items_view ks)) o ≡ false
past_gone None ns ks h g = refl
past_gone (Some i) ns ks h g = short_gone i ns ks (omega arith)

-- both parts are tested in turn
pub both_parts : (r s a b all : Bool) → all ≡ (a && b) → r ≡ true → r ≡ a → s ≡ b → s ≡ all
both_parts r s a b all e t h g = g ∙ sym (e ∙ ap (λ x. x && b) (sym h ∙ t))

pub first_part : (r a b all : Bool) → all ≡ (a && b) → r ≡ false → r ≡ a → r ≡ all
first_part r a b all e f h = f ∙ sym (e ∙ ap (λ x. x && b) (sym h ∙ f))

-- no element, and more than one
pub only_none : (ns : List Value) → length ns < 1 → only_item (items_view ns) ≡ None
only_none [] h = refl
only_none (n ∷ ns) h = absurd (omega arith)

pub only_many : (ns : List Value) → 2 ≤ length ns → only_item (items_view ns) ≡ None
only_many [] h = refl
only_many (n ∷ []) h = absurd (omega arith)
only_many (n ∷ m ∷ ns) h = refl
