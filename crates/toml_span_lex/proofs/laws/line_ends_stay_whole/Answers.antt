use Rattle.toml_span_lex.proofs.Within.{after_token, after_fault}
use Rattle.toml_span_lex.proofs.laws.line_ends_stay_whole.Goals as goal

pub returns-clause-tokens : goal.returns-clause-tokens
returns-clause-tokens c = after_token

pub returns-clause-faults : goal.returns-clause-faults
returns-clause-faults c = after_fault
