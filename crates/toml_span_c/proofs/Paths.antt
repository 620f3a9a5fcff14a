-- Lists of paths with prices, split by the first steps of the paths.
use Rattle.toml_span_lex.proofs.Common.{◌≡◌, ◌≤◌, ◌+◌, ◌⊎◌, ℕ, false, List, [], ◌∷◌, refl, arith, if◌then◌else◌, nat_tests, common_steps}
use Rattle.toml_span_tree.specs.Path.{Path, Step}
use Rattle.toml_span_read.specs.Paths.{same_step}
use Rattle.toml_span_read.proofs.PathLemmas.{same_step-self}

-- the path is in the list at this price or a higher one
abbrev pub Has : Path → ℕ → List (Path × ℕ) → Type 0
Has p w [] = ⊥
Has p w (c ∷ cs) = ((p ≡ c.0) × (w ≤ c.1)) ⊎ Has p w cs

-- the paths that begin with a step, without it, and those that begin with another one
abbrev pub after : Step → List (Path × ℕ) → List (Path × ℕ)
after s [] = []
after s (([], w) ∷ ps) = after s ps
after s ((t ∷ p, w) ∷ ps) = if same_step s t then (p, w) ∷ after s ps else after s ps

abbrev pub without : Step → List (Path × ℕ) → List (Path × ℕ)
without s [] = []
without s (([], w) ∷ ps) = without s ps
without s ((t ∷ p, w) ∷ ps) = if same_step s t then without s ps else (t ∷ p, w) ∷ without s ps

-- the prices of all, and of those that have a step
abbrev pub total : List (Path × ℕ) → ℕ
total [] = 0
total ((p, w) ∷ ps) = w + total ps

abbrev pub stepping : List (Path × ℕ) → ℕ
stepping [] = 0
stepping (([], w) ∷ ps) = stepping ps
stepping ((t ∷ p, w) ∷ ps) = w + stepping ps

pub stepping-parts : (s : Step) (ps : List (Path × ℕ)) → total (after s ps) + stepping (without s ps) ≡ stepping ps
stepping-parts s [] = refl
stepping-parts s ((p, w) ∷ ps) = grind (arith, nat_tests, common_steps, stepping-parts s ps)

stepping-total : (ps : List (Path × ℕ)) → stepping ps ≤ total ps
stepping-total [] = omega arith
stepping-total ((p, w) ∷ ps) = grind (arith, nat_tests, common_steps, stepping-total ps)

-- the price of the empty path and the prices of those that have a step
pub stepping-fewer : (w : ℕ) (ps : List (Path × ℕ)) → Has [] w ps → w + stepping ps ≤ total ps
stepping-fewer w [] h = absurd h
stepping-fewer w ((p, v) ∷ ps) h = grind (arith, nat_tests, common_steps, stepping-total ps, stepping-fewer w ps)

pub after-mem : (s : Step) (q : Path) (w : ℕ) (ps : List (Path × ℕ)) → Has (s ∷ q) w ps → Has q w (after s ps)
after-mem s q w [] h = h
after-mem s q w ((p, v) ∷ ps) h = grind (arith, nat_tests, common_steps, same_step-self s, after-mem s q w ps)

pub without-mem : (s t : Step) (q : Path) (w : ℕ) (ps : List (Path × ℕ)) → same_step s t ≡ false → Has (t ∷ q) w ps → Has (t ∷ q) w (without s ps)
without-mem s t q w [] apart h = h
without-mem s t q w ((p, v) ∷ ps) apart h = grind (arith, nat_tests, common_steps, without-mem s t q w ps)
