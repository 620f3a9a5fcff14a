use Rattle.toml_span_lex.proofs.Common.{◌≤◌, ◌-◌, length, IsCharBoundary}
use Rattle.toml_span.proofs.LinesPlaced.{PlacedSoFar}
use Rattle.toml_span.proofs.lines.place_lines.Given as goal

-- the assignments up to here have been read and placed
abbrev pub invariant-lines : goal.invariant-lines
invariant-lines l = record {
  forward : l.from ≤ l.at;
  boundary : IsCharBoundary l.text l.at;
  placed : PlacedSoFar l.text l.limit l.from l.fn.node l.node l.end l.at;
}

abbrev pub decreases-lines : goal.decreases-lines
decreases-lines l = length l.text - l.at
