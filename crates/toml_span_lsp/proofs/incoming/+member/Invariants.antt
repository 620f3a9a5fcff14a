use Rattle.toml_span_lex.proofs.Common.{length}
use Rattle.toml_span_lsp.proofs.incoming.+member.Given as goal

abbrev pub decreases-member : goal.decreases-member
decreases-member l = length l.names.now
