use Rattle.toml_span_laws.proofs.Fields.{opens-over, opens-some}
use Rattle.toml_span_laws.proofs.parse.helper_opens_on_a_table.Goals as goal

pub returns : goal.returns
returns c = record { some = opens-some; over = opens-over }
