use Rattle.std.proofs.Common.{◌≡◌, map, take}
use Rattle.std.specs.List.{filter_map}
use Rattle.toml_span_check.specs.Patterns.{pattern, pattern_of}
use Rattle.toml_span_check.proofs.folder.patterns_of.Given as goal

abbrev pub invariant-loop-text : goal.invariant-loop-text
invariant-loop-text l =
    map pattern l.patterns.items ≡ filter_map pattern_of (map (λ text. text.now) (take l.text-index l.texts))
