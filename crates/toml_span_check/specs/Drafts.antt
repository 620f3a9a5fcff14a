-- The pieces and statements of a text that is put together from parts.
use Rattle.std.specs.Prelude.{◌≡◌, ℕ, ◌+◌, ◌-◌, Bool, true, false, ◌&&◌, List, [], ◌∷◌, ◌++◌, length}
use Rattle.std.specs.Str.{bytes_eq}
use Rattle.toml_span_check.specs.declared.drafts.Draft.{Draft}
use Rattle.toml_span_syntax.specs.Pieces.{Covers}
use Rattle.toml_span_syntax.specs.Statements.{Splits}
use Rattle.toml_span_syntax.specs.declared.heads.StatementKind.{StatementKind}
use Rattle.toml_span_syntax.specs.declared.heads.StatementKind.TheVariants as is
use Rattle.toml_span_syntax.specs.declared.pieces.Kind.{Kind}
use Rattle.toml_span_syntax.specs.declared.pieces.Kind.TheVariants as kinds
use Rattle.toml_span_syntax.specs.declared.pieces.Piece.{Piece}
use Rattle.toml_span_syntax.specs.declared.statements.Statement.{Statement}

-- These are the pieces of a text, and its statements.
pub record IsReading (text : List ℕ) (pieces : List Piece) (statements : List Statement) : Type 0 where
  pub covers : Covers text 0 pieces (length text)
  pub splits : Splits pieces 0 statements (length pieces)

-- a number for each kind of pieces, and of statements
abbrev pub kind_code : Kind → ℕ
kind_code kinds.Blank = 0
kind_code kinds.LineEnd = 1
kind_code kinds.Comment = 2
kind_code kinds.Bare = 3
kind_code (kinds.String false) = 4
kind_code (kinds.String true) = 5
kind_code (kinds.Faulty false) = 6
kind_code (kinds.Faulty true) = 7
kind_code (kinds.Open false) = 8
kind_code (kinds.Open true) = 9
kind_code kinds.Invalid = 10
kind_code kinds.ByteOrderMark = 11
kind_code (kinds.Mark c) = 12 + c

abbrev pub statement_code : StatementKind → ℕ
statement_code is.Blank = 0
statement_code is.Header = 1
statement_code is.Assignment = 2
statement_code is.Unreadable = 3

-- Pieces by kind and number of bytes, and statements by kind and number of pieces. The bytes of a text, its pieces and
-- its statements by size determine where they are.
abbrev pub piece_sizes : List Piece → List ℕ
piece_sizes [] = []
piece_sizes (piece ∷ pieces) = kind_code piece.kind ∷ (piece.end - piece.start) ∷ piece_sizes pieces

abbrev pub statement_sizes : List Statement → List ℕ
statement_sizes [] = []
statement_sizes (s ∷ ss) = statement_code s.kind ∷ (s.end - s.first) ∷ statement_sizes ss

-- a text, and the pieces and statements that it must have, by size
pub record Parts : Type 0 where
  pub text : List ℕ
  pub pieces : List ℕ
  pub statements : List ℕ

abbrev pub draft : Draft → Parts
draft d = record { text = d.text.items; pieces = d.pieces.items; statements = d.statements.items }

abbrev pub empty : Parts
empty = record { text = []; pieces = []; statements = [] }

-- one more part, which has these pieces and statements
abbrev pub add : Parts → List ℕ → List Piece → List Statement → Parts
add parts text pieces statements = record {
  text = parts.text ++ text;
  pieces = parts.pieces ++ piece_sizes pieces;
  statements = parts.statements ++ statement_sizes statements;
}

-- whether the text has these pieces and statements
abbrev pub HasSizes : List ℕ → Parts → Bool → Type 0
HasSizes text parts right =
    (pieces : List Piece) × (statements : List Statement) × IsReading text pieces statements
    × (right ≡ (bytes_eq (piece_sizes pieces) parts.pieces && bytes_eq (statement_sizes statements) parts.statements))
