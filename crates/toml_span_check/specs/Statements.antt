-- The statements that an error concerns.
use Rattle.std.specs.Prelude.{◌≡◌, ℕ, Bool, true, false, not, ◌&&◌, ◌||◌, nat_eq, nat_lt, nat_le, List}
use Rattle.std.specs.Prelude.{codes, drop, find, fold, length, slice_get, slice_range, Option, Some, None, option_map}
use Rattle.std.specs.Prelude.{if◌then◌else◌, unwrap_or}
use Rattle.std.specs.List.{starts_with}
use Rattle.toml_span_lex.specs.declared.span.Span.{Span}
use Rattle.toml_span_check.specs.Drafts.{IsReading}
use Rattle.toml_span_syntax.specs.Heads.{is_mark, kind_of}
use Rattle.toml_span_syntax.specs.Statements.{depth_after, indent, is_bracketed}
use Rattle.toml_span_syntax.specs.declared.heads.StatementKind.{StatementKind}
use Rattle.toml_span_syntax.specs.declared.heads.StatementKind.TheVariants as is
use Rattle.toml_span_syntax.specs.declared.pieces.Piece.{Piece}
use Rattle.toml_span_syntax.specs.declared.statements.Statement.{Statement}
use Rattle.toml_span_check.specs.declared.statements.Extent.{Extent}

-- ---- a statement

-- the offset of a piece, or the length of the text after the last one
abbrev pub start_or : ℕ → Option Piece → ℕ
start_or end None = end
start_or end (Some piece) = piece.start

abbrev pub offset_of : List ℕ → List Piece → ℕ → ℕ
offset_of text pieces index = start_or (length text) (slice_get pieces index)

-- the pieces of a statement, and its bytes
abbrev pub own_pieces : List Piece → Statement → List Piece
own_pieces pieces s = slice_range pieces s.first s.end

abbrev pub own_bytes : List ℕ → List Piece → Statement → List ℕ
own_bytes text pieces s = slice_range text (offset_of text pieces s.first) (offset_of text pieces s.end)

-- the number of bytes of the blanks at its start
abbrev pub margin : List Piece → Statement → ℕ
margin pieces s = indent (own_pieces pieces s)

-- whether it begins with `[`, after blanks
abbrev pub begins_section : List Piece → Statement → Bool
begins_section pieces s = is_bracketed (own_pieces pieces s)

-- whether a bracket or a multi-line string is open at its end
abbrev pub is_open : List Piece → Statement → Bool
is_open pieces s = nat_lt 0 (fold (λ depth piece. depth_after depth piece.kind) 0 (own_pieces pieces s))

-- whether it begins with this marker of a merge conflict
abbrev pub is_marker : List ℕ → List Piece → List ℕ → Statement → Bool
is_marker text pieces marker s = starts_with nat_eq (own_bytes text pieces s) marker

-- whether the line after it is unreadable, and indented further
abbrev pub is_unreadable : StatementKind → Bool
is_unreadable is.Unreadable = true
is_unreadable _ = false

abbrev pub is_continued : List Piece → Statement → Bool
is_continued pieces s =
    (nat_le s.end (length pieces) && is_unreadable (kind_of (drop s.end pieces)))
    && nat_lt (margin pieces s) (margin pieces (record { kind = is.Blank; first = s.end; end = length pieces }))

-- ---- the statement with an error

-- Whether an error at the offset `place` is an error of this statement, if it is none of those before: the statement
-- ends after the offset, or is the last one. Or, unless two keys or headers clash, a bracket is open at its end, so that
-- what follows was read as a part of it.
abbrev pub has_error : List ℕ → List Piece → ℕ → Bool → Statement → Bool
has_error text pieces place clash s =
    (nat_lt place (offset_of text pieces s.end) || nat_le (length pieces) s.end) || (not clash && is_open pieces s)

-- the first such statement from the piece at `from` on, at which reading began
abbrev pub found_faulty : List ℕ → List Piece → List Statement → ℕ → ℕ → Bool → Option Statement
found_faulty text pieces ss from place clash =
    find (λ s. nat_le from s.first && has_error text pieces place clash s) ss

abbrev pub faulty : List ℕ → List Piece → List Statement → ℕ → ℕ → Bool → Statement
faulty text pieces ss from place clash =
    unwrap_or (found_faulty text pieces ss from place clash)
    (record { kind = is.Blank; first = from; end = length pieces })

-- ---- where reading goes on

-- the position of a statement's first piece, or the number of pieces
abbrev pub first_of : List Piece → Option Statement → ℕ
first_of pieces None = length pieces
first_of pieces (Some s) = s.first

-- the marker at the end of the side of a merge conflict that a statement opens: of the common ancestor, or of the second
-- side
abbrev pub closing_marker : List ℕ → List Piece → Statement → Option (List ℕ)
closing_marker text pieces s =
    if is_marker text pieces (codes "|||||||") s then Some (codes "=======")
    else if is_marker text pieces (codes "=======") s then Some (codes ">>>>>>>")
    else None

-- the position of that marker, if it comes before the next conflict
abbrev pub stop_at : List ℕ → List Piece → List ℕ → Option Statement → Option ℕ
stop_at text pieces marker None = None
stop_at text pieces marker (Some s) = if is_marker text pieces marker s then Some s.first else None

abbrev pub found_marker : List ℕ → List Piece → List Statement → ℕ → List ℕ → Option Statement
found_marker text pieces ss from marker =
    find (λ s. nat_le from s.first
    && (is_marker text pieces marker s || is_marker text pieces (codes "<<<<<<<") s)) ss

abbrev pub stop_after : List ℕ → List Piece → List Statement → ℕ → Option (List ℕ) → Option ℕ
stop_after text pieces ss from None = None
stop_after text pieces ss from (Some marker) = stop_at text pieces marker (found_marker text pieces ss from marker)

abbrev pub side_end : List ℕ → List Piece → List Statement → Statement → Option ℕ
side_end text pieces ss s = stop_after text pieces ss s.end (closing_marker text pieces s)

-- whether the statement `next` goes on the one with an error before it: it is unreadable, and indented further
abbrev pub continues : List Piece → Statement → Statement → Bool
continues pieces s next = is_unreadable next.kind && nat_lt (margin pieces s) (margin pieces next)

abbrev pub found_next : List Piece → List Statement → Statement → Option Statement
found_next pieces ss s = find (λ next. nat_le s.end next.first && not (continues pieces s next)) ss

-- a statement with an error and the statements that continue it, as one
abbrev pub with_continued : List Piece → List Statement → Statement → Statement
with_continued pieces ss s = record s { end = first_of pieces (found_next pieces ss s) }

abbrev pub next_of : List ℕ → List Piece → List Statement → Statement → ℕ
next_of text pieces ss s = unwrap_or (side_end text pieces ss s) (first_of pieces (found_next pieces ss s))

-- the position of the first statement from `from` on that begins a section
abbrev pub found_section : List Piece → List Statement → ℕ → Option Statement
found_section pieces ss from = find (λ s. nat_le from s.first && begins_section pieces s) ss

abbrev pub section_end : List Piece → List Statement → ℕ → ℕ
section_end pieces ss from = first_of pieces (found_section pieces ss from)

-- ---- the statements of an error

abbrev pub extent_from : List ℕ → List Piece → List Statement → Statement → Extent
extent_from text pieces ss s =
    let next = next_of text pieces ss s in
    record {
      statement = s;
      next = next;
      end = if begins_section pieces s then section_end pieces ss next else next;
    }

-- The statement with the error at the offset `place`, where reading goes on, and the end of its section if it begins
-- one. Reading began at the piece at `from`.
abbrev pub extent_of : List ℕ → List Piece → List Statement → ℕ → ℕ → Bool → Extent
extent_of text pieces ss from place clash =
    extent_from text pieces ss (faulty text pieces ss from place clash)

-- ---- the lines of an assignment

abbrev pub is_assignment : StatementKind → Bool
is_assignment is.Assignment = true
is_assignment _ = false

abbrev pub end_or_zero : Option Piece → ℕ
end_or_zero None = 0
end_or_zero (Some piece) = piece.end

-- the offset after the first `=`
abbrev pub found_equals : List Piece → Statement → Option Piece
found_equals pieces s = find (λ piece. is_mark 61 piece.kind) (own_pieces pieces s)

abbrev pub equals_end : List Piece → Statement → ℕ
equals_end pieces s = end_or_zero (found_equals pieces s)

-- whether the key or the `=` of an assignment is at this offset
abbrev pub has_key_at : List ℕ → List Piece → ℕ → Statement → Bool
has_key_at text pieces at s =
    is_assignment s.kind && nat_le (offset_of text pieces s.first) at && nat_lt at (equals_end pieces s)

abbrev pub lines_of : List ℕ → List Piece → Statement → Span
lines_of text pieces s = record { start = offset_of text pieces s.first; end = offset_of text pieces s.end }

-- the lines of the assignment whose key or `=` is at this offset
abbrev pub AreLines : List ℕ → ℕ → Option Span → Type 0
AreLines text at lines =
    (pieces : List Piece) × (ss : List Statement) × IsReading text pieces ss
    × (lines ≡ option_map (lines_of text pieces) (find (has_key_at text pieces at) ss))
