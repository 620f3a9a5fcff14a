use Rattle.toml_span_lex.proofs.Common.{◌<◌, ◌^◌}
use Rattle.toml_span_read.proofs.ShortIntegers.{FewDigits}
use Rattle.toml_span_read.proofs.numbers.few_digits.Given as goal

abbrev pub invariant-loop-at : goal.invariant-loop-at
invariant-loop-at l = record {
  read : FewDigits l.text l.from l.at l.value;
  small : l.value < 2 ^ 63;
}
