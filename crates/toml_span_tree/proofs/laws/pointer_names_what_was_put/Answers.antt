use Rattle.toml_span_tree.proofs.PointerLaws.{pointed-put}
use Rattle.toml_span_tree.proofs.laws.pointer_names_what_was_put.Goals as goal

pub returns : goal.returns
returns c = pointed-put
