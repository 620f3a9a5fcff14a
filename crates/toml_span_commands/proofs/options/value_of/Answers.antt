use Rattle.toml_span_lex.proofs.Common.{arith, nat_tests, common_steps}
use Rattle.toml_span_commands.proofs.Rows.{first-row, or-nothing}
use Rattle.toml_span_commands.proofs.options.value_of.Goals as goal

pub returns : goal.returns
returns c = grind (arith, nat_tests, common_steps, first-row, or-nothing)
