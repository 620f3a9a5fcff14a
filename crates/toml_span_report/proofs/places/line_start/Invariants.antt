use Rattle.toml_span_lex.proofs.Common.{◌≡◌, ◌≤◌}
use Rattle.toml_span_report.specs.Places.{line_start}
use Rattle.toml_span_report.proofs.places.line_start.Given as goal

abbrev pub invariant-loop-start : goal.invariant-loop-start
invariant-loop-start l = record {
  within : l.start ≤ l.at;
  same : line_start l.text l.start ≡ line_start l.text l.at;
}

abbrev pub decreases-loop-start : goal.decreases-loop-start
decreases-loop-start l = l.start
