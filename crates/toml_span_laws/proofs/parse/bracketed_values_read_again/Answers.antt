use Rattle.toml_span_laws.proofs.ValueAgain.{flat-again, flat-place, tree-again}
use Rattle.toml_span_laws.proofs.parse.bracketed_values_read_again.Goals as goal

pub returns : goal.returns
returns c = record { place = flat-place; document = flat-again; tree = tree-again }
