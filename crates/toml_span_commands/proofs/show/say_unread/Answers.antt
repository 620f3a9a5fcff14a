use Rattle.toml_span_lex.proofs.Common.{arith, nat_tests, common_steps}
use Rattle.toml_span_commands.proofs.Said.{says-as}
use Rattle.toml_span_commands.proofs.show.say_unread.Goals as goal

pub returns : goal.returns
returns g c = record { says = says-as _ _ _ _ _ _ _ (grind (arith, nat_tests, common_steps)) c.say.ensures }
