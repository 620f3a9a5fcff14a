use Rattle.toml_span_lex.proofs.Common.{length}
use Rattle.toml_span_edit.proofs.made.+is_nested.Given as goal

abbrev pub decreases-is_nested : goal.decreases-is_nested
decreases-is_nested l = length l.names.now
