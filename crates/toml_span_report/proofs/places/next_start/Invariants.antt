use Rattle.toml_span_lex.proofs.Common.{◌≡◌, ◌<◌, ℕ, false, get_or}
use Rattle.toml_span_report.specs.Places.{begins_character}
use Rattle.toml_span_report.proofs.places.next_start.Given as goal

abbrev pub invariant-loop-i : goal.invariant-loop-i
invariant-loop-i l = (k : ℕ) → k < l.i → begins_character (get_or l.bytes k 0) ≡ false
