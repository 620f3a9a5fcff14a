-- A list that is sorted stably is the list that `sorted_by` builds.
use Rattle.toml_span_lex.proofs.Common.{◌≡◌, ℕ, suc, ◌<◌, ◌≤◌, List, [], ◌∷◌, map, filter, length, get_or, refl, sym, ap, ◌∙◌, ⊤, arith, nat_eq, cases_lt, inl, inr, nat_tests, common_steps, IsNonDecreasingBy, IsStableByKey, ties}
use Rattle.std.specs.Ordering.{is_lt, nat_cmp}
use Rattle.toml_span_check.specs.code.Entries.{put_by, sorted_by}

module _ {X : Type 0} (n : X → ℕ) where
  -- each number is at least k
  abbrev Least : ℕ → List X → Type 0
  Least k [] = ⊤
  Least k (y ∷ ys) = (k ≤ n y) × Least k ys

  abbrev Up : List X → Type 0
  Up [] = ⊤
  Up (y ∷ ys) = Least (n y) ys × Up ys

  -- the elements with this number
  abbrev at : ℕ → List X → List X
  at k ys = filter (λ y. nat_eq (n y) k) ys

  lower : (j k : ℕ) (ys : List X) → j ≤ k → Least k ys → Least j ys
  lower j k [] le h = tt
  lower j k (y ∷ ys) le h = (omega (arith, le, h.0), lower j k ys le h.1)

  -- there is none below the least
  none-at : (j k : ℕ) (ys : List X) → j < k → Least k ys → at j ys ≡ []
  none-at j k [] lt h = refl
  none-at j k (y ∷ ys) lt h = grind (arith, nat_tests, common_steps, none-at j k ys lt h.1, h.0)

  -- ---- what `sorted_by` builds

  put-least : (k : ℕ) (x : X) (ys : List X) → k ≤ n x → Least k ys → Least k (put_by n x ys)
  put-least k x [] le h = (le, tt)
  put-least k x (y ∷ ys) le h = grind (arith, nat_tests, common_steps, put-least k x ys le h.1, h.0, h.1)

  put-up : (x : X) (ys : List X) → Up ys → Up (put_by n x ys)
  put-up x [] h = (tt, tt)
  put-up x (y ∷ ys) h = grind (arith, nat_tests, common_steps, put-up x ys h.1, put-least (n y) x ys, lower (n x) (n y) ys, h.0, h.1)

  put-at : (k : ℕ) (x : X) (ys : List X) → at k (put_by n x ys) ≡ at k (x ∷ ys)
  put-at k x [] = refl
  put-at k x (y ∷ ys) = grind (arith, nat_tests, common_steps, put-at k x ys)

  sorted-up : (xs : List X) → Up (sorted_by n xs)
  sorted-up [] = tt
  sorted-up (x ∷ xs) = put-up x (sorted_by n xs) (sorted-up xs)

  sorted-at : (k : ℕ) (xs : List X) → at k (sorted_by n xs) ≡ at k xs
  sorted-at k [] = refl
  sorted-at k (x ∷ xs) = grind (arith, nat_tests, common_steps, put-at k x (sorted_by n xs), sorted-at k xs)

  -- ---- a list in order is determined by the elements with each number

  nil-cons : (y : X) (ys : List X) → [] ≡ y ∷ ys → ⊥
  nil-cons y ys e = cc

  at-own : (y : X) (ys : List X) → at (n y) (y ∷ ys) ≡ y ∷ at (n y) ys
  at-own y ys = grind (arith, nat_tests, common_steps)

  -- the first element of a list in order has the least number
  first-least : (y z : X) (ys zs : List X) → Least (n z) zs → at (n y) (z ∷ zs) ≡ y ∷ ys → n z ≤ n y
  first-least y z ys zs h e = elim (cases_lt (n y) (n z)) [
    | inl below ↦ absurd (nil-cons y ys (sym (none-at (n y) (n z) (z ∷ zs) below (omega arith, h)) ∙ e))
    | inr above ↦ above
  ]

  head-same : (x y : X) (xs ys : List X) → x ∷ xs ≡ y ∷ ys → x ≡ y
  head-same x y xs ys e = cc

  tail-same : (x y : X) (xs ys : List X) → x ∷ xs ≡ y ∷ ys → xs ≡ ys
  tail-same x y xs ys e = cc

  rest-same : (k : ℕ) (y z : X) (ys zs : List X) → y ≡ z → at k (y ∷ ys) ≡ at k (z ∷ zs) → at k ys ≡ at k zs
  rest-same k y z ys zs same e = grind (arith, nat_tests, common_steps)

  pub one-order : (ys zs : List X) → Up ys → Up zs → ((x : X) → at (n x) ys ≡ at (n x) zs) → ys ≡ zs
  one-order [] [] u v e = refl
  one-order [] (z ∷ zs) u v e = absurd (nil-cons z (at (n z) zs) (e z ∙ at-own z zs))
  one-order (y ∷ ys) [] u v e = absurd (nil-cons y (at (n y) ys) (sym (e y) ∙ at-own y ys))
  one-order (y ∷ ys) (z ∷ zs) u v e =
      let down : n z ≤ n y = first-least y z (at (n y) ys) zs v.0 (sym (e y) ∙ at-own y ys) in
      let up : n y ≤ n z = first-least z y (at (n z) zs) ys u.0 (e z ∙ at-own z zs) in
      let number : n y ≡ n z = omega (arith, down, up) in
      let heads : y ∷ at (n y) ys ≡ z ∷ at (n z) zs =
      sym (at-own y ys) ∙ e y ∙ ap (λ k. at k (z ∷ zs)) number ∙ at-own z zs in
      let same : y ≡ z = head-same y z _ _ heads in
      ap (λ w. w ∷ ys) same ∙ ap (λ ws. z ∷ ws) (one-order ys zs u.1 v.1 (λ x. rest-same (n x) y z ys zs same (e x)))

  -- ---- what `sort_by_key` ensures

  least-all : (k : ℕ) (ys : List X) → ((j : ℕ) (d : X) → j < length ys → k ≤ n (get_or ys j d)) → Least k ys
  least-all k [] h = tt
  least-all k (y ∷ ys) h = (h 0 y (omega arith), least-all k ys (λ j d lt. h (suc j) d (omega (arith, lt))))

  up-from : (ys : List X) → IsNonDecreasingBy n ys → Up ys
  up-from [] h = tt
  up-from (y ∷ ys) h = (
    least-all (n y) ys (λ j d lt. h 0 (suc j) d (omega arith) (omega (arith, lt))),
    up-from ys (λ i j d le lt. h (suc i) (suc j) d (omega (arith, le)) (omega (arith, lt))),
  )

  tie : (x y : X) → ties (λ a b. is_lt (nat_cmp (n a) (n b))) x y ≡ nat_eq (n y) (n x)
  tie x y = grind (arith, nat_tests, common_steps)

  tied : (x : X) (ys : List X) → filter (ties (λ a b. is_lt (nat_cmp (n a) (n b))) x) ys ≡ at (n x) ys
  tied x [] = refl
  tied x (y ∷ ys) = grind (arith, nat_tests, common_steps, tie x y, tied x ys)

  pub sorted : (xs ys : List X) → IsNonDecreasingBy n ys → IsStableByKey n nat_cmp xs ys → ys ≡ sorted_by n xs
  sorted xs ys up stable =
      one-order ys (sorted_by n xs) (up-from ys up) (sorted-up xs)
      (λ x. sym (tied x ys) ∙ stable x ∙ tied x xs ∙ sym (sorted-at (n x) xs))

-- a function that keeps the numbers keeps the order
module _ {X Y : Type 0} (f : X → Y) (n : X → ℕ) (m : Y → ℕ) (same : (x : X) → m (f x) ≡ n x) where
  put-map : (x : X) (ys : List X) → map f (put_by n x ys) ≡ put_by m (f x) (map f ys)
  put-map x [] = refl
  put-map x (y ∷ ys) = grind (arith, nat_tests, common_steps, put-map x ys, same x, same y)

  pub sorted-map : (xs : List X) → map f (sorted_by n xs) ≡ sorted_by m (map f xs)
  sorted-map [] = refl
  sorted-map (x ∷ xs) = put-map x (sorted_by n xs) ∙ ap (put_by m (f x)) (sorted-map xs)
