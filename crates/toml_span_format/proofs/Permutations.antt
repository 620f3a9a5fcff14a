-- Lists that are the same in another order.
use Rattle.toml_span_lex.proofs.Common.{◌≡◌, ◌<◌, ◌≤◌, ℕ, ◌+◌, List, ap, arith, cases_lt, get_or, get_or-map, inl, inr, length, map, subst, sym, take, take_all, ◌∙◌}
use Rattle.std.specs.List.Sorted.{IsPermutation}
use Rattle.std.proofs.lemmas.List.Sorted.{IsPermutation-map, IsPermutation-sym, IsPermutation-trans}

-- a list that was gathered and then sorted
pub gathered : {X Y Z : Type 0} (f : X → Y) (g : Z → Y) (zs : List Z) (i : ℕ) (xs ys : List X) → length zs ≤ i → map f xs ≡ map g (take i zs) → IsPermutation xs ys → IsPermutation (map g zs) (map f ys)
gathered f g zs i xs ys past same moved =
    subst (λ l. IsPermutation l (map f ys)) (same ∙ ap (λ l. map g l) (take_all i zs past)) (IsPermutation-map f xs ys moved)

-- Two lists that are sorted to the same list are permutations of each other.
pub permuted : {X Y Z : Type 0} (f : X → Y) (g : Y → Z) (us vs : List Y) (xs ys : List X) → IsPermutation us (map f xs) → IsPermutation vs (map f ys) → map g (map f xs) ≡ map g (map f ys) → IsPermutation (map g us) (map g vs)
permuted f g us vs xs ys one two same =
    let back : IsPermutation (map g (map f ys)) (map g vs) = IsPermutation-sym (map g vs) (map g (map f ys)) (IsPermutation-map g vs (map f ys) two) in
    let there : IsPermutation (map g us) (map g (map f ys)) = subst (IsPermutation (map g us)) same (IsPermutation-map g us (map f xs) one) in
    IsPermutation-trans (map g us) (map g (map f ys)) (map g vs) there back

-- what holds of each pair of elements below an index
abbrev pub Below : {X Y : Type 0} → (X → Y) → (Y → Y → Type 0) → List X → List X → ℕ → Type 0
Below {X} {Y} f R xs ys i = (k : ℕ) (d : Y) → k < i → R (get_or (map f xs) k d) (get_or (map f ys) k d)

pub one_more : {X Y : Type 0} (f : X → Y) (R : Y → Y → Type 0) (xs ys : List X) (i : ℕ) (x y : X) → i < length xs → i < length ys → get_or xs i x ≡ x → get_or ys i y ≡ y → R (f x) (f y) → Below f R xs ys i → Below f R xs ys (i + 1)
one_more {X} {Y} f R xs ys i x y here there is other holds before k d below = elim (cases_lt k i) [
  | inl h ↦ before k d h
  | inr h ↦
      let same : i ≡ k = omega (arith, h, below) in
      let one : f x ≡ get_or (map f xs) i d = sym (get_or-map f xs i x d here ∙ ap f is) in
      let two : f y ≡ get_or (map f ys) i d = sym (get_or-map f ys i y d there ∙ ap f other) in
      let now : R (get_or (map f xs) i d) (get_or (map f ys) i d) = subst (λ b. R (get_or (map f xs) i d) b) two (subst (λ a. R a (f y)) one holds) in
      subst (λ j. R (get_or (map f xs) j d) (get_or (map f ys) j d)) same now
]
