use Rattle.std.proofs.Common.{◌≡◌, map}
use Rattle.toml_span_check.specs.Patterns.{pattern}
use Rattle.toml_span_config.proofs.config.patterns_of.Given as goal

abbrev pub invariant-loop-glob : goal.invariant-loop-glob
invariant-loop-glob l = map pattern l.patterns.items ≡ map (λ g. pattern g.pattern) l.yielded
