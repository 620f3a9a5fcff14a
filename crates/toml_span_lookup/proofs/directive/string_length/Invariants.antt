use Rattle.std.proofs.Common.{◌≡◌, drop}
use Rattle.toml_span_lookup.specs.Directive.{string_length}
use Rattle.toml_span_lookup.proofs.directive.string_length.Given as goal

abbrev pub invariant-loop-at : goal.invariant-loop-at
invariant-loop-at l = string_length l.quote l.at (drop l.at l.text) ≡ string_length l.quote 0 l.text
