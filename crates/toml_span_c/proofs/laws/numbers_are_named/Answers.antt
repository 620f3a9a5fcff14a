use Rattle.toml_span_c.proofs.Names.{code-named}
use Rattle.toml_span_c.proofs.laws.numbers_are_named.Goals as goal

pub returns : goal.returns
returns c = code-named
