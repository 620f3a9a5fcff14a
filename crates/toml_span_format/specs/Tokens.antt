-- The tokens and comments of a text, as they are compared.
use Rattle.std.specs.Prelude.{ℕ, ◌-◌, ◌<◌, Bool, true, false, not, ◌==◌, List, length, map, take, slice_index, slice_index_or}
use Rattle.std.specs.List.{filter, slice_range, suffix_len}
use Rattle.std.specs.Char.{is_ascii_whitespace}
use Rattle.toml_span_syntax.specs.Pieces.{IsSpan}
use Rattle.toml_span_syntax.specs.declared.pieces.Kind.{Kind}
use Rattle.toml_span_syntax.specs.declared.pieces.Kind.TheVariants as kinds
use Rattle.toml_span_syntax.specs.declared.pieces.Piece.{Piece}

-- whether formatting may change pieces of this kind: blanks, line ends and commas
abbrev pub is_layout : Kind → Bool
is_layout kinds.Blank = true
is_layout kinds.LineEnd = true
is_layout kinds.ByteOrderMark = true
is_layout (kinds.Mark c) = c == 44
is_layout _ = false

-- a text without white space at its end
abbrev pub trimmed : List ℕ → List ℕ
trimmed s = take (length s - suffix_len is_ascii_whitespace s) s

-- the text of a piece as a token
abbrev pub token : List ℕ → Piece → List ℕ
token text p = trimmed (slice_range text p.start p.end)

-- the tokens and comments among these pieces of a text
abbrev pub tokens : List ℕ → List Piece → List (List ℕ)
tokens text ps = map (token text) (filter (λ p. not (is_layout p.kind)) ps)

-- whether a token is a comment
abbrev pub is_comment : List ℕ → Bool
is_comment t = slice_index t 0 == 35

-- Each piece is a span of the text.
abbrev pub AllSpans : List ℕ → List Piece → Type 0
AllSpans text ps = (k : ℕ) (d : Piece) → k < length ps → IsSpan text (slice_index_or ps k d)
