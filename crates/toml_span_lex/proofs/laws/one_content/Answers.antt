use Rattle.toml_span_lex.proofs.OneFault.{content_unique}
use Rattle.toml_span_lex.proofs.laws.one_content.Goals as goal

pub returns : goal.returns
returns c = content_unique
