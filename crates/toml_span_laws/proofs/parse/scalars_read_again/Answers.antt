use Rattle.toml_span_laws.proofs.ReadAgain.{flat-again, tree-again}
use Rattle.toml_span_laws.proofs.parse.scalars_read_again.Goals as goal

pub returns : goal.returns
returns c = record { flat = flat-again; tree = tree-again }
