use Rattle.std.proofs.Common.{◌≡◌, map}
use Rattle.std.specs.List.{filter_map}
use Rattle.toml_span_check.specs.Patterns.{line_pattern, pattern}
use Rattle.toml_span_check.proofs.patterns.ignore_patterns.Given as goal

abbrev pub invariant-loop-line : goal.invariant-loop-line
invariant-loop-line l = map pattern l.patterns.items ≡ filter_map line_pattern (map (λ line. line.now) l.yielded)
