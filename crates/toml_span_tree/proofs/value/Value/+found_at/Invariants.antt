use Rattle.toml_span_lex.proofs.Common.{length}
use Rattle.toml_span_tree.proofs.value.Value.+found_at.Given as goal

abbrev pub decreases-found_at : goal.decreases-found_at
decreases-found_at l = length l.names.now
