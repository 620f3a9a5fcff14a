use Rattle.toml_span_lex.proofs.OneFault.{fault_unique}
use Rattle.toml_span_lex.proofs.laws.one_fault.Goals as goal

pub returns : goal.returns
returns c = fault_unique
