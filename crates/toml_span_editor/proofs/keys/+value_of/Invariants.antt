use Rattle.toml_span_lex.proofs.Common.{length}
use Rattle.toml_span_editor.proofs.keys.+value_of.Given as goal

abbrev pub decreases-value_of : goal.decreases-value_of
decreases-value_of l = length l.path.now
