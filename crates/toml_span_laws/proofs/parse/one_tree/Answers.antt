use Rattle.toml_span_laws.proofs.OneTree.{one-value}
use Rattle.toml_span_laws.proofs.Pointed.{tree-value}
use Rattle.toml_span_laws.proofs.parse.one_tree.Goals as goal

pub returns : goal.returns
returns c = record { value = one-value; document = tree-value }
