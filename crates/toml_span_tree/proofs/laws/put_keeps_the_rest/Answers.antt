use Rattle.toml_span_tree.proofs.Paths.{place_at-other}
use Rattle.toml_span_tree.proofs.laws.put_keeps_the_rest.Goals as goal

pub returns : goal.returns
returns c = place_at-other
