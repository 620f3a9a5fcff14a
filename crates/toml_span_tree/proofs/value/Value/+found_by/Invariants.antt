use Rattle.toml_span_lex.proofs.Common.{length}
use Rattle.toml_span_tree.proofs.value.Value.+found_by.Given as goal

abbrev pub decreases-found_by : goal.decreases-found_by
decreases-found_by l = length l.path.now
