use Rattle.toml_span_lex.proofs.Common.{◌≤◌, ◌-◌, ℕ, List, length, IsCharBoundary}
use Rattle.toml_span_lex.specs.declared.pieces.Piece.{Piece}
use Rattle.toml_span_lex.specs.Strings as spec
use Rattle.toml_span_lex.proofs.strings.scan_string.Given as goal

abbrev pub invariant-pieces : goal.invariant-pieces
invariant-pieces l = record {
  forward : l.from ≤ l.place;
  boundary : IsCharBoundary l.text l.place;
  cut : (ps : List (Piece × ℕ)) × spec.Cut l.quote l.multi l.text l.from ps l.place;
}

abbrev pub decreases-pieces : goal.decreases-pieces
decreases-pieces l = length l.text - l.place
