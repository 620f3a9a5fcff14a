-- Parts in the order of the text.
use Rattle.toml_span_lex.proofs.Common.{◌≡◌, ℕ, ◌≤◌, not, List, ◌∷◌, ◌++◌, map, length, take, drop, arith, sym, ap, ◌∙◌, nat_lt, insert, prefix_len-le-length, length-map, take-map, drop-map, map-append}
use Rattle.toml_span_report.specs.Strips.{StripContent, placed, earlier}

pub map_insert : {X Y : Type 0} (f : X → Y) (xs : List X) (i : ℕ) (x : X) → map f (insert xs i x) ≡ insert (map f xs) i (f x)
map_insert f xs i x =
    map-append f (take i xs) (x ∷ drop i xs)
    ∙ ap (λ front. front ++ f x ∷ map f (drop i xs)) (sym (take-map f i xs))
    ∙ ap (λ back. take i (map f xs) ++ f x ∷ back) (sym (drop-map f i xs))

pub earlier_within : {X : Type 0} (f : X → StripContent) (xs : List X) (n at : ℕ) → n ≡ earlier (map f xs) at → n ≤ length xs
earlier_within f xs n at e =
    let within = prefix_len-le-length (λ p. not (nat_lt at p.at)) (map f xs) in
    let size : length (map f xs) ≡ length xs = length-map xs f in
    omega arith

pub placed_is : {X : Type 0} (f : X → StripContent) (xs ys : List X) (x : X) (n : ℕ) → n ≡ earlier (map f xs) (f x).at → ys ≡ insert xs n x → map f ys ≡ placed (map f xs) (f x)
placed_is f xs ys x n e h = ap (map f) h ∙ map_insert f xs n x ∙ ap (λ k. insert (map f xs) k (f x)) e
