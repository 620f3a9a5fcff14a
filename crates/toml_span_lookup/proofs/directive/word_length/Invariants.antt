use Rattle.std.proofs.Common.{◌≡◌, ◌+◌, ◌≤◌, drop, nat_lt, true, if◌then◌else◌}
use Rattle.toml_span_lookup.specs.Directive.{word_length}
use Rattle.toml_span_lookup.proofs.directive.word_length.Given as goal

abbrev pub invariant-loop-at : goal.invariant-loop-at
invariant-loop-at l =
    ((if nat_lt 0 (word_length l.after_white (drop l.at l.text)) then l.at + word_length l.after_white (drop l.at l.text) else l.end)
    ≡ word_length true l.text) × (l.end ≤ l.at)
