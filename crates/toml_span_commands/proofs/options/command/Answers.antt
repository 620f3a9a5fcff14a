use Rattle.toml_span_commands.specs.Options.{check, get}
use Rattle.toml_span_commands.proofs.options.command.Goals as goal

pub returns-in-Check : goal.returns-in-Check
unfolding check
returns-in-Check c = rw c.in-Check.is c.command_with.ensures

pub returns-in-Get : goal.returns-in-Get
unfolding get
returns-in-Get c = rw c.in-Get.is c.command_with-in-Get.ensures
