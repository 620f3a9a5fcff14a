use Rattle.toml_span_typed.proofs.Integers.{signed_converts}
use Rattle.toml_span_typed.proofs.deserialize.integers.I8Deserialize.deserialize.Goals as goal

pub returns : goal.returns
returns c = c.narrowed.ensures _ (signed_converts _)
