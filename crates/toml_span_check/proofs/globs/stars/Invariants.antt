use Rattle.std.proofs.Common.{◌≡◌, None, replicate}
use Rattle.toml_span_check.specs.Globs.{codes_of}
use Rattle.toml_span_check.proofs.globs.stars.Given as goal

abbrev pub invariant-loop : goal.invariant-loop
invariant-loop l = codes_of l.part.items ≡ replicate l.counter None
