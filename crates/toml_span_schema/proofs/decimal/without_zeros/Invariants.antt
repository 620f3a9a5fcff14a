use Rattle.std.proofs.Common.{◌≡◌, ◌+◌, ◌≤◌, drop, nat_lt, if◌then◌else◌}
use Rattle.toml_span_schema.specs.Numbers.{significant}
use Rattle.toml_span_schema.proofs.decimal.without_zeros.Given as goal

abbrev pub invariant-loop-i : goal.invariant-loop-i
invariant-loop-i l =
    ((if nat_lt 0 (significant (drop l.i l.digits)) then l.i + significant (drop l.i l.digits) else l.end)
    ≡ significant l.digits) × (l.end ≤ l.i)
