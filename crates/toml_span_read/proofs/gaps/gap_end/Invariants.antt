use Rattle.toml_span_lex.proofs.Common.{◌≤◌, ◌-◌, ℕ, List, length, IsCharBoundary}
use Rattle.toml_span_read.specs.Gaps.{GapBy}
use Rattle.toml_span_read.proofs.gaps.gap_end.Given as goal

abbrev pub invariant-gap : goal.invariant-gap
invariant-gap l = record {
  forward : l.from ≤ l.at;
  boundary : IsCharBoundary l.text l.at;
  pieces : (ks : List ℕ) × GapBy l.text l.from ks l.at;
}

abbrev pub decreases-gap : goal.decreases-gap
decreases-gap l = length l.text - l.at
