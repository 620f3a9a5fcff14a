use Rattle.toml_span_tree.proofs.Paths.{node_at-put}
use Rattle.toml_span_tree.proofs.laws.put_is_found.Goals as goal

pub returns : goal.returns
returns c = node_at-put
