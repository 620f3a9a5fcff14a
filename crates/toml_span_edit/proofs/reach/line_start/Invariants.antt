use Rattle.toml_span_lex.proofs.Common.{◌≡◌}
use Rattle.toml_span_edit.specs.Kept.{line_start}
use Rattle.toml_span_edit.proofs.reach.line_start.Given as goal

abbrev pub invariant-loop-start : goal.invariant-loop-start
invariant-loop-start l = line_start l.text l.start ≡ line_start l.text l.at

abbrev pub decreases-loop-start : goal.decreases-loop-start
decreases-loop-start l = l.start
