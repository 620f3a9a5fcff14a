use Rattle.std.proofs.Common.{◌≡◌}
use Rattle.toml_span_lookup.proofs.compiling.push_missing.Given as goal

abbrev pub invariant-loop-flaw : goal.invariant-loop-flaw
invariant-loop-flaw g l = l.used.path ≡ l.fn.used.path
