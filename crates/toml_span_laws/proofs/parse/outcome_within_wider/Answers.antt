use Rattle.toml_span_laws.proofs.Answered.{read_wider}
use Rattle.toml_span_laws.proofs.parse.outcome_within_wider.Goals as goal

pub returns-clause-resolved : goal.returns-clause-resolved
returns-clause-resolved c = λ text limit wider sections l h. (read_wider text limit wider sections l h.0, h.1)

pub returns-clause-clashed : goal.returns-clause-clashed
returns-clause-clashed c = λ text limit wider sections clash l h. (read_wider text limit wider sections l h.0, h.1)
