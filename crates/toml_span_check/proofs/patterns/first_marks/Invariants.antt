use Rattle.std.proofs.Common.{◌≡◌, ◌∷◌, false, replicate, true}
use Rattle.toml_span_check.proofs.patterns.first_marks.Given as goal

abbrev pub invariant-loop : goal.invariant-loop
invariant-loop l = l.marks.items ≡ true ∷ replicate l.counter false
