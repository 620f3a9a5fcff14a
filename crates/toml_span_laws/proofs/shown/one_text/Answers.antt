use Rattle.toml_span_laws.proofs.OneText.{one-text}
use Rattle.toml_span_laws.proofs.shown.one_text.Goals as goal

pub returns : goal.returns
returns c = one-text
