use Rattle.toml_span_lex.proofs.Common.{arith, nat_tests, common_steps, take-map, length-map}
use Rattle.toml_span_commands.proofs.options.but_last.Goals as goal

pub returns : goal.returns
returns c = grind (arith, nat_tests, common_steps, take-map, length-map)
