use Rattle.std.proofs.Common.{◌≡◌}
use Rattle.toml_span_lookup.proofs.compiling.compile_used.Given as goal

abbrev pub invariant-loop : goal.invariant-loop
invariant-loop g l = l.used.path ≡ l.fn.used.path
