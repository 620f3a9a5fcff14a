use Rattle.std.proofs.Common.{◌≡◌, ◌<◌, ◌≤◌, ◌-◌, ◌*◌, ◌^◌, ◌%◌}
use Rattle.toml_span_schema.proofs.decimal.remainder_of_zeros.Given as goal

abbrev pub invariant-loop-zero : goal.invariant-loop-zero
invariant-loop-zero l =
    ((l.left * 10 ^ (l.zeros - l.zero)) % l.divisor ≡ (l.fn.left * 10 ^ l.zeros) % l.divisor)
    × (l.left < l.divisor) × (l.zero ≤ l.zeros)
