use Rattle.toml_span_lex.proofs.Common.{length}
use Rattle.toml_span_edit.proofs.made.+added.Given as goal

abbrev pub decreases-added : goal.decreases-added
decreases-added l = length l.path.now
