use Rattle.std.proofs.Common.{◌≡◌, ◌<◌, ◌%◌, drop}
use Rattle.toml_span_schema.specs.Numbers.{value_after}
use Rattle.toml_span_schema.proofs.decimal.remainder.Given as goal

abbrev pub invariant-loop-digit : goal.invariant-loop-digit
invariant-loop-digit l =
    (value_after l.left (drop l.digit-index l.digits) % l.divisor ≡ value_after 0 l.digits % l.divisor)
    × (l.left < l.divisor)
