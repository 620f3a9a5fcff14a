use Rattle.toml_span_lex.proofs.Common.{◌≡◌}
use Rattle.toml_span_places.specs.Lines.{blanks_start}
use Rattle.toml_span_places.proofs.lines.blanks_start.Given as goal

abbrev pub invariant-loop-start : goal.invariant-loop-start
invariant-loop-start l = blanks_start l.text l.start ≡ blanks_start l.text l.at

abbrev pub decreases-loop-start : goal.decreases-loop-start
decreases-loop-start l = l.start
