use Rattle.toml_span_laws.proofs.FloatTexts.{tree-texts}
use Rattle.toml_span_laws.proofs.again.float_texts.Goals as goal

pub returns : goal.returns
returns c = tree-texts
