use Rattle.toml_span_lex.proofs.Common.{arith, nat_tests, common_steps}
use Rattle.toml_span_serde.proofs.KindLemmas.{is_other_many}
use Rattle.toml_span_serde.proofs.reader.Reader.other.Goals as goal

pub returns-in-Ok : goal.returns-in-Ok
returns-in-Ok c = grind (arith, nat_tests, common_steps, is_other_many)
