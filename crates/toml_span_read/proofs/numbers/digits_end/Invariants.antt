use Rattle.toml_span_read.proofs.NumberLemmas.{Reading}
use Rattle.toml_span_read.proofs.numbers.digits_end.Given as goal

abbrev pub invariant-loop-at : goal.invariant-loop-at
invariant-loop-at l = Reading l.radix l.text l.from l.piece.end l.at l.was_digit
