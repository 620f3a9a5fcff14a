use Rattle.toml_span_c.proofs.Names.{refusal-numbered}
use Rattle.toml_span_c.proofs.laws.errors_are_numbered.Goals as goal

pub returns : goal.returns
returns c = refusal-numbered
