use Rattle.toml_span_laws.proofs.WrittenOver.{tree-takes-scalar}
use Rattle.toml_span_laws.proofs.again.scalar_replaced.Goals as goal

pub returns : goal.returns
returns c = tree-takes-scalar
