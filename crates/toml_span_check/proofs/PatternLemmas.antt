-- Patterns of paths: marks at the start and the end of a text.
use Rattle.std.proofs.Common.{◌≡◌, ◌≢◌, ◌∙◌, ap, ℕ, ◌-◌, true, false, List, [], ◌∷◌, ◌++◌, length, take, arith, inl, inr, refl}
use Rattle.std.proofs.lemmas.Bool.{cases_eq, ne_eqb, eq-eqb}
use Rattle.std.proofs.Math.Seq.{take-append_seam}
use Rattle.std.proofs.lemmas.List.{length-append}
use Rattle.toml_span_check.specs.Patterns.{begins, ends, without_mark, without_root, without_slash}

unbegun : (c : ℕ) (text : List ℕ) → ((rest : List ℕ) → text ≢ c ∷ rest) → begins c text ≡ false
unbegun c [] differs = refl
unbegun c (x ∷ xs) differs = elim (cases_eq x c) [ inl is ↦ absurd (differs xs (ap (λ a. a ∷ xs) is)) | inr isnt ↦ ne_eqb x c isnt ]

unended : (c : ℕ) (text : List ℕ) → ((front : List ℕ) → text ≢ front ++ c ∷ []) → ends c text ≡ false
unended c [] differs = refl
unended c (x ∷ []) differs = elim (cases_eq x c) [ inl is ↦ absurd (differs [] (ap (λ a. a ∷ []) is)) | inr isnt ↦ ne_eqb x c isnt ]
unended c (x ∷ y ∷ ys) differs = unended c (y ∷ ys) (λ front is. differs (x ∷ front) (ap (λ l. x ∷ l) is))

pub unmarked : (text : List ℕ) → ((rest : List ℕ) → text ≢ 33 ∷ rest) → (false, text) ≡ without_mark text
unmarked text differs = rw (unbegun 33 text differs)

pub unrooted : (text : List ℕ) → ((rest : List ℕ) → text ≢ 47 ∷ rest) → text ≡ without_root text
unrooted text differs = rw (unbegun 47 text differs)

pub unslashed : (text : List ℕ) → ((front : List ℕ) → text ≢ front ++ 47 ∷ []) → (false, text) ≡ without_slash text
unslashed text differs = rw (unended 47 text differs)

ended : (c : ℕ) (front : List ℕ) → ends c (front ++ c ∷ []) ≡ true
ended c [] = eq-eqb c c refl
ended c (x ∷ []) = eq-eqb c c refl
ended c (x ∷ y ∷ ys) = ended c (y ∷ ys)

pub slashed : (text front : List ℕ) → text ≡ front ++ 47 ∷ [] → (true, front) ≡ without_slash text
slashed text front is =
    let kept : take (length text - 1) text ≡ front =
    ap (λ t. take (length t - 1) t) is
    ∙ ap (λ n. take n (front ++ 47 ∷ [])) (ap (λ n. n - 1) (length-append front (47 ∷ [])) ∙ omega arith)
    ∙ take-append_seam front (47 ∷ []) in
    rw (ap (ends 47) is ∙ ended 47 front, kept)
