use Rattle.toml_span_lex.proofs.Common.{length}
use Rattle.toml_span_edit.proofs.made.+value_at.Given as goal

abbrev pub decreases-value_at : goal.decreases-value_at
decreases-value_at l = length l.path.now
