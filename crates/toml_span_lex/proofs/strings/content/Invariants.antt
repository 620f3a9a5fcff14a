use Rattle.toml_span_lex.proofs.Common.{◌≤◌, ◌-◌, ℕ, List, length, IsCharBoundary}
use Rattle.toml_span_lex.specs.declared.pieces.Piece.{Piece}
use Rattle.toml_span_lex.specs.Strings as spec
use Rattle.toml_span_lex.specs.code.Strings as code
use Rattle.toml_span_lex.proofs.strings.content.Given as goal

abbrev pub invariant-pieces : goal.invariant-pieces
invariant-pieces l = record {
  forward : l.from ≤ l.at;
  boundary : IsCharBoundary l.text l.at;
  cut : (ps : List (Piece × ℕ)) × spec.Cut l.quote l.multi l.text l.from ps l.at × code.Kept l.quote l.text l.from l.at (spec.content l.text l.from ps) l.kept;
}

abbrev pub decreases-pieces : goal.decreases-pieces
decreases-pieces l = length l.text - l.at
