use Rattle.toml_span_lex.proofs.Common.{ℕ, List, ◌+◌, ◌-◌, ◌≡◌, arith, inl, inr, refl, Ok, cases_lt}
use Rattle.toml_span_read.specs.Data.{ParsedValue}
use Rattle.toml_span_read.specs.Grammar.{Spells}
use Rattle.toml_span_read.specs.Read as read
use Rattle.toml_span_read.proofs.ReadSound.{value_sound}
use Rattle.toml_span_laws.proofs.Complete.{few, value_complete}
use Rattle.toml_span_laws.proofs.values.values_are_read.Goals as goal

spelled : (text : List ℕ) (limit d i j : ℕ) (v : ParsedValue) → read.value text limit ((limit + 1) - d) 0 i (Ok (v, j)) → Spells v text limit d i j
spelled text limit d i j v h = elim (cases_lt d (limit + 2)) [
  | inl l ↦ let e : d + 0 ≡ d = omega arith in rw e at (value_sound ((limit + 1) - d) text limit d 0 (omega arith) v i j h)
  | inr g ↦
      let none : (limit + 1) - d ≡ 0 = omega arith in
      let w = few v text limit ((limit + 1) + 0) i j (value_sound 0 text limit (limit + 1) 0 (omega arith) v i j (rw none at h)) in absurd (omega (arith, w))
]

pub returns : goal.returns
returns c = λ text limit d i j v. (spelled text limit d i j v, value_complete v text limit ((limit + 1) - d) d i j refl)
