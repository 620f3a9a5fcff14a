use Rattle.toml_span_editor.proofs.RoundTrip.{positions_return}
use Rattle.toml_span_editor.proofs.laws.positions_return.Goals as goal

pub returns : goal.returns
returns c = positions_return
