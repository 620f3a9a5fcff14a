use Rattle.std.proofs.Common.{rules, arith}
use Rattle.toml_span_schema.proofs.Remainders.{digit_step}
use Rattle.toml_span_schema.proofs.decimal.remainder.Goals as goal

pub loop-digit-preserved : goal.loop-digit-preserved
loop-digit-preserved c = first_of (grind (arith, digit_step), search (rules, digit_step))
