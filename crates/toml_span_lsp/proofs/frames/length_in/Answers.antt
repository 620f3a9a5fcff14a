use Rattle.toml_span_lex.proofs.Common.{none-some}
use Rattle.toml_span_lsp.proofs.frames.length_in.Goals as goal

pub returns-in-None : goal.returns-in-None
returns-in-None c = λ n small is. absurd (none-some _ (c.in-None.ensures n small is))
