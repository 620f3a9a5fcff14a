use Rattle.toml_span_tree.proofs.PointerLaws.{pointed-apart}
use Rattle.toml_span_tree.proofs.laws.other_pointers_keep.Goals as goal

pub returns : goal.returns
returns c = pointed-apart
