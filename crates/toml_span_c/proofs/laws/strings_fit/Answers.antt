use Rattle.toml_span_c.proofs.Bound.{short-strings}
use Rattle.toml_span_c.proofs.laws.strings_fit.Goals as goal

pub returns : goal.returns
returns c = short-strings
