use Rattle.toml_span_laws.proofs.NumberRows.{number_rows}
use Rattle.toml_span_laws.proofs.numbers.number_faults.Goals as goal

pub returns : goal.returns
returns c = λ text i fault begins h. number_rows text i begins fault h
