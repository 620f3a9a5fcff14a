use Rattle.toml_span_lex.proofs.Common.{arith, nat_tests, common_steps}
use Rattle.toml_span_commands.proofs.say.say.Goals as goal

pub returns-then-write_bytes : goal.returns-then-write_bytes
returns-then-write_bytes g c = grind (arith, nat_tests, common_steps)

pub returns-else-write_bytes : goal.returns-else-write_bytes
returns-else-write_bytes g c = grind (arith, nat_tests, common_steps)
