use Rattle.toml_span_lex.proofs.Common.{◌<◌, ℕ, IsCharBoundary}
use Rattle.toml_span_laws.specs.code.Judged.{Judged}
use Rattle.toml_span_laws.proofs.judged.places_are_judged.Given as goal

abbrev pub invariant-loop-at : goal.invariant-loop-at
invariant-loop-at l = (i : ℕ) → i < l.at → IsCharBoundary l.text i → Judged l.text i
