use Rattle.toml_span_typed.proofs.Integers.{unsigned_converts}
use Rattle.toml_span_typed.proofs.deserialize.integers.U32Deserialize.deserialize.Goals as goal

pub returns : goal.returns
returns c = c.narrowed.ensures _ (unsigned_converts 32)
