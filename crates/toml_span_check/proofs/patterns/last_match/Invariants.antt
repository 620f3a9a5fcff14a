use Rattle.std.proofs.Common.{◌≡◌, None, drop, map}
use Rattle.toml_span_check.specs.Patterns.{parts, pattern, selected}
use Rattle.toml_span_check.proofs.patterns.last_match.Given as goal

abbrev pub invariant-loop-pattern : goal.invariant-loop-pattern
invariant-loop-pattern l =
    selected (map pattern (drop l.pattern-index l.patterns)) (parts l.path) l.is_directory l.found
    ≡ selected (map pattern l.patterns) (parts l.path) l.is_directory None
