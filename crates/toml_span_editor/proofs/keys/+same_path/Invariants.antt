use Rattle.toml_span_lex.proofs.Common.{length}
use Rattle.toml_span_editor.proofs.keys.+same_path.Given as goal

abbrev pub decreases-same_path : goal.decreases-same_path
decreases-same_path l = length l.path.now
