use Rattle.toml_span_lex.proofs.Common.{length}
use Rattle.toml_span_edit.proofs.paths.+names_steps.Given as goal

abbrev pub decreases-names_steps : goal.decreases-names_steps
decreases-names_steps l = length l.path.now
