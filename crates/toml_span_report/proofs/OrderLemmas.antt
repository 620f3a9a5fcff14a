-- Reports in the order of their places.
use Rattle.toml_span_lex.proofs.Common.{◌≡◌, ◌<◌, Bool, List, [], ◌∷◌, map, length, arith, refl, sym, ap, ◌∙◌, filter, IsNonDecreasingBy, IsPermutation, IsStableByKey, ties, is_lt, nat_cmp, get_or-map, length-map, nil_from_length, common_steps, length_permutation}
use Rattle.toml_span_report.specs.Many.{AreInOrder, drawn_content}
use Rattle.toml_span_report.specs.declared.many.Drawn.{Drawn}

map_filter : {X Y : Type 0} (f : X → Y) (p : Y → Bool) (xs : List X) → filter p (map f xs) ≡ map f (filter (λ x. p (f x)) xs)
map_filter f p [] = refl
map_filter f p (x ∷ xs) = let rest = map_filter f p xs in grind (arith, common_steps)

pub map_twice : {X Y Z : Type 0} (f : X → Y) (g : Y → Z) (xs : List X) → map (λ x. g (f x)) xs ≡ map g (map f xs)
map_twice f g [] = refl
map_twice f g (x ∷ xs) = ap (λ zs. g (f x) ∷ zs) (map_twice f g xs)

rises : (xs : List Drawn) → IsNonDecreasingBy (λ d. d.at) xs → IsNonDecreasingBy (λ d. d.0) (map drawn_content xs)
rises [] up = λ i j d order below. absurd (omega arith)
rises (x ∷ xs) up = λ i j d order below.
    let size = length-map (x ∷ xs) drawn_content in
    let within : j < length (x ∷ xs) = omega arith in
    rw (get_or-map drawn_content (x ∷ xs) i x d (omega arith), get_or-map drawn_content (x ∷ xs) j x d within) (up i j x order within)

keeps : (xs ys : List Drawn) → IsPermutation xs ys → IsStableByKey (λ d. d.at) nat_cmp xs ys → IsStableByKey (λ d. d.0) nat_cmp (map drawn_content xs) (map drawn_content ys)
keeps [] ys moved same = λ d. ap (λ zs. filter (ties (λ x y. is_lt (nat_cmp x.0 y.0)) d) (map drawn_content zs)) (nil_from_length ys (length_permutation [] ys moved))
keeps (x ∷ xs) ys moved same = λ d.
    let p = ties (λ x y. is_lt (nat_cmp x.0 y.0)) d in
    map_filter drawn_content p ys
    ∙ ap (map drawn_content) (same (record { at = d.0; text = x.text }))
    ∙ sym (map_filter drawn_content p (x ∷ xs))

pub in_order : (xs ys : List Drawn) → IsPermutation xs ys → IsNonDecreasingBy (λ d. d.at) ys → IsStableByKey (λ d. d.at) nat_cmp xs ys → AreInOrder (map drawn_content xs) (map drawn_content ys)
in_order xs ys moved up same = record { places = rises ys up; same = keeps xs ys moved same }
