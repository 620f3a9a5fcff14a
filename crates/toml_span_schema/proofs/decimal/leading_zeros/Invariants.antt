use Rattle.std.proofs.Common.{◌≡◌, ◌+◌, drop}
use Rattle.toml_span_schema.specs.Numbers.{leading_zeros}
use Rattle.toml_span_schema.proofs.decimal.leading_zeros.Given as goal

abbrev pub invariant-loop-i : goal.invariant-loop-i
invariant-loop-i l = l.i + leading_zeros (drop l.i l.digits) ≡ leading_zeros l.digits
