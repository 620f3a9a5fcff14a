-- Lists of texts that are the same.
use Rattle.toml_span_lex.proofs.Common.{◌≡◌, ℕ, suc, arith, Bool, IsTrue, true, List, [], ◌∷◌, ap, ap₂, and_from, and_parts, bytes_eq, bytes_eq-Decides, drop, false≢true, get_or, length, map, refl, sym, ◌∙◌}
use Rattle.std.specs.Cmp.Lexicographic.{pointwise}
use denote.Ref.{Bor}

abbrev eq : Bor (List ℕ) → Bor (List ℕ) → Bool
eq a b = bytes_eq a.now b.now

abbrev now : Bor (List ℕ) → List ℕ
now a = a.now

same : (xs ys : List (Bor (List ℕ))) → pointwise eq xs ys ≡ true → map now xs ≡ map now ys
same [] [] h = refl
same [] (y ∷ ys) h = absurd (false≢true h)
same (x ∷ xs) [] h = absurd (false≢true h)
same (x ∷ xs) (y ∷ ys) h =
    let p = and_parts (eq x y) (pointwise eq xs ys) h in
    ap₂ (λ z zs. z ∷ zs) ((bytes_eq-Decides x.now y.now).0 p.0) (same xs ys p.1)

found : (xs ys : List (Bor (List ℕ))) → map now xs ≡ map now ys → pointwise eq xs ys ≡ true
found [] [] e = refl
found [] (y ∷ ys) e = let n : 0 ≡ suc (length (map now ys)) = ap length e in absurd (omega (arith, n))
found (x ∷ xs) [] e = let n : suc (length (map now xs)) ≡ 0 = ap length e in absurd (omega (arith, n))
found (x ∷ xs) (y ∷ ys) e = and_from (eq x y) (pointwise eq xs ys) ((bytes_eq-Decides x.now y.now).1 (ap (λ l. get_or l 0 []) e)) (found xs ys (ap (drop 1) e))

pub same_texts : (xs ys : List (Bor (List ℕ))) (b : Bool) → b ≡ pointwise eq xs ys → (IsTrue b → map now xs ≡ map now ys) × (map now xs ≡ map now ys → IsTrue b)
same_texts xs ys b is = (λ t. same xs ys (sym is ∙ t), λ e. is ∙ found xs ys e)
