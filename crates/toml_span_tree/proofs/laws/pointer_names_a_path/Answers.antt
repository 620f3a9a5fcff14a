use Rattle.toml_span_tree.proofs.PointerLaws.{pointed-is}
use Rattle.toml_span_tree.proofs.laws.pointer_names_a_path.Goals as goal

pub returns : goal.returns
returns c = pointed-is
