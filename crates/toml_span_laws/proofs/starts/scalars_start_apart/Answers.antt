use Rattle.toml_span_laws.proofs.ScalarsApart.{tree_scalars_apart}
use Rattle.toml_span_laws.proofs.starts.scalars_start_apart.Goals as goal

pub returns : goal.returns
returns c = tree_scalars_apart
