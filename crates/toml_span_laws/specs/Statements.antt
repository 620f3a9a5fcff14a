-- The statements of a document that are its headers and assignments.
use Rattle.std.specs.Prelude.{◌≡◌, ℕ, Bool, true, false, if◌then◌else◌, List, [], ◌∷◌, ◌++◌, length, drop, map}
use Rattle.toml_span_lex.specs.declared.span.Span.{Span}
use Rattle.toml_span_read.specs.Data.{SimpleKey, ParsedAssignment, ParsedSection}
use Rattle.toml_span_read.specs.Gaps.{Tail}
use Rattle.toml_span_syntax.specs.declared.heads.StatementKind.{StatementKind}
use Rattle.toml_span_syntax.specs.declared.heads.StatementKind.TheVariants as is
use Rattle.toml_span_syntax.specs.declared.pieces.Piece.{Piece}
use Rattle.toml_span_syntax.specs.declared.statements.Statement.{Statement}
use Rattle.toml_span_syntax.specs.Heads.{is_blank}

-- A header or an assignment of a document: which of the two it is, and its span. The span of a header includes the rest
-- of its line.
abbrev pub Entry : Type 0
Entry = StatementKind × Span

-- the header of a section with these parts, as a list, which is empty for the section before the first header
abbrev pub header_entry : List SimpleKey → Span → List Entry
header_entry [] span = []
header_entry (s ∷ ss) span = (is.Header, span) ∷ []

abbrev pub assignment_entry : ParsedAssignment → Entry
assignment_entry a = (is.Assignment, a.extent)

-- the headers and assignments of these sections, in order
abbrev pub entries : List ParsedSection → List Entry
entries [] = []
entries (s ∷ ss) = header_entry s.header s.header_span ++ (map assignment_entry s.assignments ++ entries ss)

-- the offset at which these pieces begin or, without pieces, the end of the text
abbrev pub offset : List ℕ → List Piece → ℕ
offset text [] = length text
offset text (piece ∷ pieces) = piece.start

-- the pieces after the spaces and tabs, and a byte order mark, with which these pieces begin
abbrev pub past_blanks : List Piece → List Piece
past_blanks [] = []
past_blanks (piece ∷ pieces) = if is_blank piece.kind then past_blanks pieces else piece ∷ pieces

-- whether a statement of this kind is more than a blank line
abbrev pub is_filled : StatementKind → Bool
is_filled is.Blank = false
is_filled _ = true

-- The text from i to j is what a statement has after its header or assignment: nothing, since the span of a header
-- includes the rest of its line, or the rest of the line.
abbrev pub Remains : StatementKind → List ℕ → ℕ → ℕ → Type 0
Remains is.Header text i j = i ≡ j
Remains _ text i j = Tail text i j

-- The statement is this header or assignment, with the blanks before it and the rest of its line.
pub record IsEntry (text : List ℕ) (pieces : List Piece) (statement : Statement) (entry : Entry) : Type 0 where
  pub kind : statement.kind ≡ entry.0
  pub start : offset text (past_blanks (drop statement.first pieces)) ≡ entry.1.start
  pub rest : Remains entry.0 text entry.1.end (offset text (drop statement.end pieces))
