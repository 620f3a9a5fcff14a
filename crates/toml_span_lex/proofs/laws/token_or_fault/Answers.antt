use Rattle.toml_span_lex.proofs.NoFault.{token_or_fault}
use Rattle.toml_span_lex.proofs.laws.token_or_fault.Goals as goal

pub returns : goal.returns
returns c = token_or_fault
