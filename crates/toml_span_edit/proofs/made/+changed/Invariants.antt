use Rattle.toml_span_lex.proofs.Common.{length}
use Rattle.toml_span_edit.proofs.made.+changed.Given as goal

abbrev pub decreases-changed : goal.decreases-changed
decreases-changed l = length l.path.now
