use Rattle.toml_span_lex.proofs.Within.{token_within, fault_within}
use Rattle.toml_span_lex.proofs.laws.within_the_text.Goals as goal

pub returns-clause-tokens : goal.returns-clause-tokens
returns-clause-tokens c = token_within

pub returns-clause-faults : goal.returns-clause-faults
returns-clause-faults c = fault_within
