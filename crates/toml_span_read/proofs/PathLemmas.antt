-- Steps and paths that compare equal are equal.
use Rattle.toml_span_lex.proofs.Common.{◌≡◌, true, false, List, [], ◌∷◌, refl, and_parts, false≢true, bytes_eq-Decides, arith, nat_tests, common_steps}
use Rattle.std.proofs.lemmas.Bool.{eqb-true, eq-eqb}
use Rattle.toml_span_tree.specs.Path.{Path, Step}
use Rattle.toml_span_read.specs.Paths.{same_path, same_step}

pub same_step-eq : (s t : Step) → same_step s t ≡ true → s ≡ t
same_step-eq s t h = grind (arith, nat_tests, common_steps, bytes_eq-Decides, eqb-true)

pub same_step-self : (s : Step) → same_step s s ≡ true
same_step-self s = grind (arith, nat_tests, common_steps, bytes_eq-Decides, eq-eqb)

pub same_path-eq : (p q : Path) → same_path p q ≡ true → p ≡ q
unfolding same_path
same_path-eq [] [] h = refl
same_path-eq (s ∷ p) (t ∷ q) h = let both = and_parts (same_step s t) (same_path p q) h in cc (same_step-eq s t both.0, same_path-eq p q both.1)
same_path-eq p q h = absurd (false≢true h)
