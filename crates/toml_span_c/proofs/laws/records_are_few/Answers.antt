use Rattle.toml_span_c.proofs.Bound.{few-records}
use Rattle.toml_span_c.proofs.laws.records_are_few.Goals as goal

pub returns : goal.returns
returns c = few-records
