use Rattle.toml_span_lex.proofs.Common.{length}
use Rattle.toml_span_tree.proofs.value.Value.+found.Given as goal

abbrev pub decreases-found : goal.decreases-found
decreases-found l = length l.path.now
