-- Lists that are written into an array, one after the other.
use Rattle.toml_span_lex.proofs.Common.{◌≡◌, ◌≤◌, ◌<◌, ℕ, nat_tests, common_steps, zero, suc, ◌+◌, ◌-◌, min, List, [], ◌∷◌, ◌++◌, length, take, drop, slice_set, refl, ap, ◌∙◌, arith}
use borrow.Rule.Slice.PartMut.{put_mid}
use Rattle.toml_span_c.specs.Records.{filled}
use Rattle.toml_span_c.specs.code.Filling.{laid}

pub laid-none : {A : Type 0} (at : ℕ) (ys : List A) → laid at [] ys ≡ ys
laid-none at [] = grind (arith, nat_tests, common_steps)
laid-none at (y ∷ ys) = grind (arith, nat_tests, common_steps, λ (i : ℕ). laid-none i ys)

-- one list after the other
pub laid-append : {A : Type 0} (at n : ℕ) (xs zs ys : List A) → n ≡ at + length xs → laid n zs (laid at xs ys) ≡ laid at (xs ++ zs) ys
laid-append at n xs zs [] e = grind (arith, nat_tests, common_steps)
laid-append {A} at n xs zs (y ∷ ys) e = grind (arith, nat_tests, common_steps, λ (i m : ℕ) (vs : List A). laid-append i m vs zs ys)

-- one element before a list
pub laid-before : {A : Type 0} (at : ℕ) (x : A) (xs ys : List A) → laid at (x ∷ []) (laid (suc at) xs ys) ≡ laid at (x ∷ xs) ys
laid-before at x xs [] = grind (arith, nat_tests, common_steps)
laid-before at x xs (y ∷ ys) = grind (arith, nat_tests, common_steps, laid-none, λ (i : ℕ). laid-before i x xs ys)

-- nothing is written past the end
pub laid-past : {A : Type 0} (at : ℕ) (xs ys : List A) → length ys ≤ at → laid at xs ys ≡ ys
laid-past at xs [] h = grind (arith, nat_tests, common_steps)
laid-past at xs (y ∷ ys) h = grind (arith, nat_tests, common_steps, λ (i : ℕ). laid-past i xs ys)

-- from the front
pub laid-filled : {A : Type 0} (xs ys : List A) → laid zero xs ys ≡ filled xs ys
laid-filled xs [] = grind (arith, nat_tests, common_steps)
laid-filled [] (y ∷ ys) = refl
laid-filled (x ∷ xs) (y ∷ ys) = ap (λ l. x ∷ l) (laid-filled xs ys)

-- a write stores one element
pub laid-set : {A : Type 0} (at : ℕ) (x : A) (ys : List A) → at < length ys → slice_set ys at x ≡ laid at (x ∷ []) ys
laid-set at x [] h = grind (arith, nat_tests, common_steps)
laid-set at x (y ∷ ys) h = grind (arith, nat_tests, common_steps, laid-none, λ (i : ℕ). laid-set i x ys)

copied-front : {A : Type 0} (n : ℕ) (xs ys : List A) → n ≡ min (length xs) (length ys) → take n xs ++ drop n ys ≡ laid zero xs ys
copied-front n xs ys e = grind (arith, nat_tests, common_steps, laid-filled)

-- a list is written if a part of the array receives as much of it as there is room for
pub laid-mid : {A : Type 0} (at k : ℕ) (xs ys zs : List A) → k ≡ min (length xs) (length ys - at) → zs ≡ take k xs → at ≤ length ys → put_mid at k ys zs ≡ laid at xs ys
laid-mid zero k xs ys zs e f h = ap (λ l. l ++ drop k ys) f ∙ copied-front k xs ys (omega arith)
laid-mid (suc at) k xs [] zs e f h = absurd (omega arith)
laid-mid (suc at) k xs (y ∷ ys) zs e f h = ap (λ l. y ∷ l) (laid-mid at k xs ys zs (omega arith) f (omega arith))
