use Rattle.toml_span_lex.proofs.Common.{drop}
use Rattle.toml_span_read.proofs.NumberLemmas.{Summed}
use Rattle.toml_span_read.proofs.numbers.magnitude.Given as goal

abbrev pub invariant-loop-byte : goal.invariant-loop-byte
invariant-loop-byte l = Summed l.radix l.value (drop l.byte-index l.digits) l.digits
