use Rattle.toml_span_editor.proofs.RoundTrip.{units-encode}
use Rattle.toml_span_editor.proofs.laws.counts_characters.Goals as goal

pub returns : goal.returns
returns c = units-encode
