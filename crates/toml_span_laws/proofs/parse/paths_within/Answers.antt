use Rattle.toml_span_laws.proofs.DepthLaws.{flat-keys, flat-steps, tree-depth}
use Rattle.toml_span_laws.proofs.parse.paths_within.Goals as goal

pub returns : goal.returns
returns c = record { keys = flat-keys; steps = flat-steps; tree = tree-depth }
