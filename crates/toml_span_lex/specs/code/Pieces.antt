-- The results of reading a piece of a string.
use Rattle.std.specs.Prelude.{ℕ, Bool, List, Result, Ok, Err, Option, Some, None}
use Rattle.toml_span_lex.specs.declared.pieces.Piece.{Piece}
use Rattle.toml_span_lex.specs.declared.tokens.Error.{Error}
use Rattle.toml_span_lex.specs.Pieces.{IsPiece, IsClose, IsContentFault}

abbrev pub PieceGives : ℕ → Bool → ℕ → List ℕ → ℕ → Result (Option Piece × ℕ) (Error × ℕ) → Type 0
PieceGives q multi start text i (Ok (Some piece, j)) = IsPiece q multi text i j piece
PieceGives q multi start text i (Ok (None, j)) = IsClose q multi text i j
PieceGives q multi start text i (Err (e, j)) = IsContentFault q multi start text i j e
