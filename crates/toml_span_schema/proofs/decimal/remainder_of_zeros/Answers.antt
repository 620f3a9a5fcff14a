use Rattle.std.proofs.Common.{rules, arith, ◌≡◌, ◌+◌, ◌-◌}
use Rattle.toml_span_schema.proofs.Remainders.{zero_step}
use Rattle.toml_span_schema.proofs.decimal.remainder_of_zeros.Goals as goal

pub loop-zero-preserved : goal.loop-zero-preserved
loop-zero-preserved c =
    let e : c.args.zeros - c.loop-zero.zero ≡ (c.args.zeros - (c.loop-zero.zero + 1)) + 1 = omega arith in
    first_of (grind (arith, zero_step), search (rules, zero_step))
