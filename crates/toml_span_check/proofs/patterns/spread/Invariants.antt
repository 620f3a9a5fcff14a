use Rattle.std.proofs.Common.{◌≡◌, ◌++◌, drop, false}
use Rattle.toml_span_check.specs.Patterns.{spread}
use Rattle.toml_span_check.proofs.patterns.spread.Given as goal

abbrev pub invariant-loop-mark : goal.invariant-loop-mark
invariant-loop-mark l = l.next.items ++ spread l.is_marked (drop l.mark-index l.marks) ≡ spread false l.marks
