use Rattle.toml_span_lex.proofs.Common.{length}
use Rattle.toml_span_check.proofs.missing.+explained.Given as goal

abbrev pub decreases-explained : goal.decreases-explained
decreases-explained l = length l.segments.now
