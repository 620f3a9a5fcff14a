use Rattle.toml_span_lex.proofs.Common.{arith}
use Rattle.toml_span_read.specs.Earlier.{value_at}
use Rattle.toml_span_read.proofs.earlier.Earlier.new.Goals as goal

pub returns : goal.returns
unfolding value_at
returns c = record { fewest = tt; within = omega arith; tree = c.empty.ensures }
