use Rattle.toml_span_lex.proofs.Common.{length}
use Rattle.toml_span_edit.proofs.paths.+names_first.Given as goal

abbrev pub decreases-names_first : goal.decreases-names_first
decreases-names_first l = length l.path.now
