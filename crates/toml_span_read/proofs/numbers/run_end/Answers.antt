use Rattle.toml_span_lex.proofs.Common.{sym}
use Rattle.toml_span_read.proofs.NumberLemmas.{run_is}
use Rattle.toml_span_read.proofs.numbers.run_end.Goals as goal

pub returns-clause-end : goal.returns-clause-end
returns-clause-end c = sym (run_is _ _ _ c.keylike_end.ensures.run)
