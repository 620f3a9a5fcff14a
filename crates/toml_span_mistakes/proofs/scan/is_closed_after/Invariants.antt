use Rattle.std.proofs.Common.{◌-◌, length}
use Rattle.std.specs.Str.{IsCharBoundary}
use Rattle.toml_span_mistakes.proofs.scan.is_closed_after.Given as goal

abbrev pub invariant-pieces : goal.invariant-pieces
invariant-pieces l = IsCharBoundary l.text l.place

abbrev pub decreases-pieces : goal.decreases-pieces
decreases-pieces l = length l.text - l.place
