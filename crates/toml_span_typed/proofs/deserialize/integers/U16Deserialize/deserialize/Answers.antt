use Rattle.toml_span_typed.proofs.Integers.{unsigned_converts}
use Rattle.toml_span_typed.proofs.deserialize.integers.U16Deserialize.deserialize.Goals as goal

pub returns : goal.returns
returns c = c.narrowed.ensures _ (unsigned_converts 16)
