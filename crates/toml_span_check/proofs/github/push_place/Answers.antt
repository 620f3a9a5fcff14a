use Rattle.toml_span_lex.proofs.Common.{arith, nat_tests, common_steps}
use Rattle.toml_span_check.proofs.github.push_place.Goals as goal

pub returns-then-label : goal.returns-then-label
returns-then-label c = grind (arith, nat_tests, common_steps)
