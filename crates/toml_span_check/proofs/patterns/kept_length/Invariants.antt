use Rattle.toml_span_check.proofs.Trimmed.{Trims}
use Rattle.toml_span_check.proofs.patterns.kept_length.Given as goal

abbrev pub invariant-loop-index : goal.invariant-loop-index
invariant-loop-index l = Trims l.line l.index l.end l.is_escaped
