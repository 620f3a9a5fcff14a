use Rattle.toml_span_lex.proofs.Common.{arith, nat_tests, common_steps}
use Rattle.toml_span_serde.proofs.Spots.{spot}
use Rattle.toml_span_serde.proofs.Ways.{named}
use Rattle.toml_span_serde.proofs.row.Row.misfit_at.Goals as goal

pub returns-clause-place : goal.returns-clause-place
returns-clause-place c = λ n is one. grind (arith, nat_tests, common_steps, named)

pub returns-clause-reported : goal.returns-clause-reported
returns-clause-reported c = λ n is. grind (arith, nat_tests, common_steps, spot)
