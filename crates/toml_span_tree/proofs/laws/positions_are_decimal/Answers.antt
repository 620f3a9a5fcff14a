use Rattle.toml_span_tree.proofs.Positions.{position_of-is}
use Rattle.toml_span_tree.proofs.laws.positions_are_decimal.Goals as goal

pub returns : goal.returns
returns c = λ i segment small. position_of-is segment i small
