-- Names, compared.
use Rattle.toml_span_lex.proofs.Common.{◌≡◌, ℕ, Bor, List, [], ◌∷◌, ap, map, nat_cmp, ordering_then, refl, slice_cmp}
use Rattle.toml_span_read.specs.Data.{parsed_assignment}
use Rattle.toml_span_read.specs.declared.value.Assignment.{Assignment}
use Rattle.toml_span_format.specs.Keys.{part_names}

-- Lists of texts that are borrowed compare as the lists of texts do.
pub cmp_now : (xs ys : List (Bor (List ℕ))) → slice_cmp (λ x y. slice_cmp nat_cmp x.now y.now) xs ys ≡ slice_cmp (slice_cmp nat_cmp) (map (λ t. t.now) xs) (map (λ t. t.now) ys)
cmp_now [] [] = refl
cmp_now [] (y ∷ ys) = refl
cmp_now (x ∷ xs) [] = refl
cmp_now (x ∷ xs) (y ∷ ys) = ap (ordering_then (slice_cmp nat_cmp x.now y.now)) (cmp_now xs ys)

pub names_of_all : (es : List Assignment) → map (λ a. part_names (parsed_assignment a).parts) es ≡ map (λ p. part_names p.parts) (map parsed_assignment es)
names_of_all [] = refl
names_of_all (e ∷ es) = ap (λ l. part_names (parsed_assignment e).parts ∷ l) (names_of_all es)
