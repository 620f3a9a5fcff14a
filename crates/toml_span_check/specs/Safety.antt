-- What a fix must keep.
use Rattle.std.specs.Prelude.{ℕ, ◌+◌, ◌-◌, Bool, true, false, ◌&&◌, ◌||◌, ◌==◌, List, [], ◌∷◌, map, length}
use Rattle.std.specs.Prelude.{Option, Some, None, if◌then◌else◌, min, nat_le, not, position, slice_get, slice_index}
use Rattle.std.specs.Prelude.{drop, is_some, unwrap_or}
use Rattle.std.specs.List.{list_all}
use Rattle.std.specs.Str.{bytes_eq}
use Rattle.toml_span_places.specs.Replace.{SpanEdit, replaced}
use Rattle.toml_span_report.specs.Report.{Repair}
use Rattle.toml_span_check.specs.Comments.{comments}
use Rattle.toml_span_check.specs.Drafts.{Parts, add}
use Rattle.toml_span_check.specs.Quotes.{quotes_value}
use Rattle.toml_span_syntax.specs.Heads.{kind_of}
use Rattle.toml_span_syntax.specs.Statements.{is_line_end, is_open_long}
use Rattle.toml_span_syntax.specs.declared.heads.StatementKind.{StatementKind}
use Rattle.toml_span_syntax.specs.declared.heads.StatementKind.TheVariants as is
use Rattle.toml_span_syntax.specs.declared.pieces.Kind.{Kind}
use Rattle.toml_span_syntax.specs.declared.pieces.Kind.TheVariants as kinds
use Rattle.toml_span_syntax.specs.declared.pieces.Piece.{Piece}
use Rattle.toml_span_syntax.specs.declared.statements.Statement.{Statement}
use Rattle.toml_span_check.specs.Statements.{begins_section, is_continued, is_unreadable, own_bytes, own_pieces}
use Rattle.toml_span_check.specs.declared.fixing.FixLevel.{FixLevel}
use Rattle.toml_span_check.specs.declared.fixing.FixLevel.TheVariants as levels
use Rattle.toml_span_check.specs.declared.fixing.Way.{Way}

-- ---- which replacements may be made

abbrev pub all_safe : List Repair → Bool
all_safe repairs = list_all (λ repair. repair.is_safe) repairs

-- whether the quotes that each replacement adds to a statement enclose a whole value
abbrev pub quote_values : List ℕ → List SpanEdit → Bool
quote_values statement edits = list_all (λ edit. quotes_value statement edit.0 edit.1) edits

abbrev pub may_be_made : List ℕ → List Repair → List SpanEdit → FixLevel → Bool
may_be_made statement repairs edits levels.Safe = all_safe repairs && quote_values statement edits
may_be_made statement repairs edits levels.Unsafe = true

-- a line feed as the text writes line ends
abbrev pub line_ended : List ℕ → Bool → List ℕ
line_ended text crlf = if crlf && bytes_eq text (10 ∷ []) then 13 ∷ 10 ∷ [] else text

abbrev pub edits : Bool → List Repair → List SpanEdit
edits crlf repairs = map (λ repair. (repair.span, line_ended repair.text crlf)) repairs

-- The statement with these replacements made, or `None` if there are none, if they may not be made, or if they do not
-- fit the statement.
abbrev pub repaired : List ℕ → List Repair → Way → Option (List ℕ)
repaired statement repairs way =
    let es = edits way.is_crlf repairs in
    if length repairs == 0 then None
    else if may_be_made statement repairs es way.level then replaced statement es
    else None

-- ---- the statements of a text

-- whether the first line end is CRLF
unfoldable pub uses_crlf : List Piece → Bool
uses_crlf [] = false
uses_crlf (piece ∷ pieces) =
    if is_line_end piece.kind then piece.end - piece.start == 2 else uses_crlf pieces

-- the position of the first multi-line string that is not closed, or the number of pieces
abbrev pub first_open : List Piece → ℕ
first_open pieces = unwrap_or (position (λ piece. is_open_long piece.kind) pieces) (length pieces)

-- whether an item of a YAML list begins at a piece, perhaps after a blank
abbrev pub past_blank : Kind → Piece → ℕ
past_blank kinds.Blank piece = piece.end
past_blank _ piece = piece.start

abbrev pub solid_or : ℕ → Option Piece → ℕ
solid_or end None = end
solid_or end (Some piece) = past_blank piece.kind piece

abbrev pub is_item : List ℕ → List Piece → ℕ → Bool
is_item text pieces index =
    let at = solid_or (length text) (slice_get pieces index) in
    slice_index text at == 45 && slice_index text (min (at + 1) 18446744073709551615) == 32

-- Whether a comma is the last of these pieces, apart from blanks, comments and line ends. `is_last` says whether one is
-- before them.
abbrev pub still_last : Bool → Kind → Bool
still_last is_last kinds.Blank = is_last
still_last is_last kinds.Comment = is_last
still_last is_last kinds.LineEnd = is_last
still_last is_last (kinds.Mark byte) = byte == 44
still_last is_last _ = false

unfoldable pub ends_with_comma : Bool → List Piece → Bool
ends_with_comma is_last [] = is_last
ends_with_comma is_last (piece ∷ pieces) = ends_with_comma (still_last is_last piece.kind) pieces

-- whether a statement ends with a comma, and the line after it is unreadable and does not begin with `[`
abbrev pub is_before_line : List Piece → Statement → Bool
is_before_line pieces s =
    (nat_le s.end (length pieces) && is_unreadable (kind_of (drop s.end pieces)))
    && not (begins_section pieces (record { kind = is.Blank; first = s.end; end = length pieces }))
    && ends_with_comma false (own_pieces pieces s)

-- whether safe fixes leave a statement as it is, since the line after it may be the next of several values
abbrev pub is_listed : FixLevel → List Piece → Statement → Bool
is_listed levels.Safe pieces s = is_before_line pieces s
is_listed levels.Unsafe pieces s = false

-- whether a statement may be fixed by itself: it is not after the first multi-line string that is not closed, and what
-- follows is neither an unreadable line that is indented further or, for safe fixes, follows a comma, nor an item of a
-- YAML list
abbrev pub may_fix : List ℕ → List Piece → Statement → Way → Bool
may_fix text pieces s way =
    nat_le s.first way.limit && not (is_continued pieces s) && not (is_listed way.level pieces s)
    && not (is_item text pieces s.end)

-- whether pieces of a text have the same comments as those of another text
abbrev pub same_comments : List ℕ → List Piece → List ℕ → List Piece → Bool
same_comments text pieces new others = bytes_eq (comments text pieces) (comments new others)

abbrev pub is_header : StatementKind → Bool
is_header is.Header = true
is_header _ = false

abbrev pub has_header : List Statement → Bool
has_header ss = is_some (position (λ s. is_header s.kind) ss)

-- Whether a fix of a statement may write a header: the statement begins with `[`, or nothing follows it, or what follows
-- begins with `[`. Otherwise, the keys after it would get into another table.
abbrev pub may_head : List Piece → Statement → Bool
may_head pieces s =
    begins_section pieces s || nat_le (length pieces) s.end
    || begins_section pieces (record { kind = is.Blank; first = s.end; end = length pieces })

-- Whether a new text for a statement with these pieces has the same comments, and no header unless `heads`. `others` and
-- `ss` are its pieces and statements.
abbrev pub keeps : List ℕ → List Piece → Bool → List ℕ → List Piece → List Statement → Bool
keeps text own heads new others ss = (heads || not (has_header ss)) && same_comments text own new others

-- one more statement as it is
abbrev pub kept : Parts → List ℕ → List Piece → Statement → Parts
kept parts text pieces s = add parts (own_bytes text pieces s) (own_pieces pieces s) (s ∷ [])
