use Rattle.toml_span_lex.proofs.Common.{◌≡◌, ◌<◌, ℕ, false, get_or}
use Rattle.toml_span_report.specs.Places.{is_line_feed}
use Rattle.toml_span_report.proofs.places.line_feed.Given as goal

abbrev pub invariant-loop-i : goal.invariant-loop-i
invariant-loop-i l = (k : ℕ) → k < l.i → is_line_feed (get_or l.bytes k 0) ≡ false
