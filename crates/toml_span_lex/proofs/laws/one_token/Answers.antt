use Rattle.toml_span_lex.proofs.OneToken.{token_unique}
use Rattle.toml_span_lex.proofs.laws.one_token.Goals as goal

pub returns : goal.returns
returns c = token_unique
