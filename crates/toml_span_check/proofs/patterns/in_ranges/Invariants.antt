use Rattle.std.proofs.Common.{◌≡◌, drop}
use Rattle.toml_span_check.specs.Globs.{in_ranges}
use Rattle.toml_span_check.proofs.patterns.in_ranges.Given as goal

abbrev pub invariant-loop-range : goal.invariant-loop-range
invariant-loop-range l = in_ranges (drop l.range-index l.ranges) l.byte ≡ in_ranges l.ranges l.byte
