use Rattle.toml_span_lex.proofs.Common.{arith, nat_tests, common_steps}
use Rattle.toml_span_serde.proofs.read.from_str.Goals as goal

pub returns-in-Err-Fault-read-clause-refused : goal.returns-in-Err-Fault-read-clause-refused
returns-in-Err-Fault-read-clause-refused g c = grind (arith, nat_tests, common_steps)
