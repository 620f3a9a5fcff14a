-- Lists whose elements are replaced one after the other.
use Rattle.toml_span_lex.proofs.Common.{◌≡◌, ◌∙◌, ◌<◌, ℕ, ◌+◌, List, [], ◌∷◌, ◌++◌, length, take, drop, map, get_or, set, add-one, ap, arith, refl, sym}
use Prim.Native.Nat.{suc, zero}

set_mapped : {A : Type 0} (f : A → A) (xs : List A) (i : ℕ) (d : A) → i < length xs → set (map f (take i xs) ++ drop i xs) i (f (get_or xs i d)) ≡ map f (take (suc i) xs) ++ drop (suc i) xs
set_mapped f [] i d h = absurd (omega arith)
set_mapped f (x ∷ xs) zero d h = refl
set_mapped {A} f (x ∷ xs) (suc i) d h = ap (λ (l : List A). f x ∷ l) (set_mapped f xs i d (omega arith))

after_mapped : {A : Type 0} (f : A → A) (xs : List A) (i : ℕ) (d : A) → get_or (map f (take i xs) ++ drop i xs) i d ≡ get_or xs i d
after_mapped f [] zero d = refl
after_mapped f [] (suc i) d = refl
after_mapped f (x ∷ xs) zero d = refl
after_mapped f (x ∷ xs) (suc i) d = after_mapped f xs i d

pub set_one : {A : Type 0} (f : A → A) (old items : List A) (i : ℕ) (x y : A) → i < length old →
    items ≡ map f (take i old) ++ drop i old → x ≡ get_or items i x → y ≡ f x → set items i y ≡ map f (take (i + 1) old) ++ drop (i + 1) old
set_one {A} f old items i x y within is here new =
    let at : x ≡ get_or old i x = here ∙ ap (λ (l : List A). get_or l i x) is ∙ after_mapped f old i x in
    ap (λ (l : List A). set l i y) is
    ∙ ap (λ (z : A). set (map f (take i old) ++ drop i old) i z) (new ∙ ap f at)
    ∙ set_mapped f old i x within
    ∙ ap (λ (n : ℕ). map f (take n old) ++ drop n old) (sym (add-one i))
