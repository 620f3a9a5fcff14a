-- The offset at which the bytes that a fault reports end, and how many bytes after it can decide about the fault.
use Rattle.std.specs.Prelude.{◌≡◌, ℕ, ◌+◌, ◌<◌, ◌≤◌, ◌⊎◌, Bool, true, false, if◌then◌else◌, List, length}
use Rattle.toml_span_lex.specs.declared.span.Span.{Span}
use Rattle.toml_span_lex.specs.Bytes.{is_blank, MaximalRun}
use Rattle.toml_span_lex.specs.Text.{CharAt}
use Rattle.toml_span_lex.specs.Tokens.{Lexeme, IsLexeme}
use Rattle.toml_span_read.specs.Dates.{is_date_byte}
use Rattle.toml_span_read.specs.Gaps.{Tail}
use Rattle.toml_span_read.specs.declared.fault.Fault.{Fault}
use Rattle.toml_span_read.specs.declared.fault.FoundToken.{FoundToken}
use Rattle.toml_span_read.specs.declared.fault.FoundToken.TheVariants as found_tokens
use Rattle.toml_span_read.specs.declared.fault.FaultKind.{FaultKind}
use Rattle.toml_span_read.specs.declared.fault.FaultKind.TheVariants as kinds

-- A token is at i..j, or the text ends at i, and j is i.
abbrev pub TokenTo : List ℕ → ℕ → ℕ → Type 0
TokenTo text i j = ((span : Span) × (l : Lexeme) × IsLexeme text i j span l) ⊎ ((i ≡ length text) × (j ≡ i))

-- A fault of this kind with the span s reports bytes of the text up to the offset j:
-- for a token other than the expected one, and for a multi-line string as a key, up to the end of the token;
-- if the text ends too early, up to its end;
-- for a character that is not allowed, up to its end; for spaces and tabs after a backslash, up to their end;
-- for an escape value, up to the end of its digits;
-- for a number, up to the end of all letters, digits, dashes, underscores, colons, dots and plus signs from s.start on;
-- for a date, a time or an unquoted string, up to the end of the span;
-- for a value or key beyond the limit, up to the end of the string or key, or of the first byte of another value;
-- for a key through a value, up to the end of its line; in an inline table, up to the end of the assigned value with
-- its closing quotes, which are not in the span.
abbrev pub ReportsTo : FaultKind → List ℕ → Span → ℕ → Type 0
ReportsTo (kinds.Wanted expected found) text s j = TokenTo text s.start j
ReportsTo kinds.MultilineStringKey text s j = TokenTo text s.start j
ReportsTo kinds.UnexpectedEof text s j = j ≡ length text
ReportsTo kinds.UnterminatedString text s j = j ≡ length text
ReportsTo (kinds.Unexpected c) text s j = CharAt text s.start c j
ReportsTo (kinds.InvalidCharInString c) text s j = CharAt text s.start c j
ReportsTo (kinds.InvalidHexEscape c) text s j = CharAt text s.start c j
ReportsTo (kinds.InvalidEscape c) text s j =
    CharAt text s.start c j ⊎ ((s.start < j) × MaximalRun is_blank text s.start j)
ReportsTo (kinds.InvalidEscapeValue value) text s j = j ≡ s.end + 1
ReportsTo kinds.InvalidNumber text s j = MaximalRun is_date_byte text s.start j
ReportsTo kinds.InvalidDatetime text s j = j ≡ s.end
ReportsTo kinds.UnquotedString text s j = j ≡ s.end
ReportsTo kinds.ExceededDepthLimit text s j = TokenTo text s.start j ⊎ ((s.end ≤ j) × (j ≤ s.end + 1))
ReportsTo (kinds.DottedKeyInvalidType first) text s j =
    (m : ℕ) × (s.end ≤ m) × (m ≤ s.end + 3) × ((j ≡ m) ⊎ Tail text m j)

-- The fault reports bytes of the text up to the offset j (see `ReportsTo`).
abbrev pub EndsReported : List ℕ → Fault → ℕ → Type 0
EndsReported text fault j = ReportsTo fault.kind text fault.span j

-- whether the token that was found is a single byte or a line end
abbrev pub is_byte_or_newline : FoundToken → Bool
is_byte_or_newline found_tokens.EndOfText = false
is_byte_or_newline found_tokens.Whitespace = false
is_byte_or_newline found_tokens.Comment = false
is_byte_or_newline found_tokens.Keylike = false
is_byte_or_newline found_tokens.OneLineString = false
is_byte_or_newline found_tokens.MultilineString = false
is_byte_or_newline found = true

-- How many bytes after the reported ones can decide whether there is a fault of this kind: none after an unexpected
-- token that is a single byte or a line end; two after a number, a date or time, an invalid escape, a key through a
-- value, and a value or key beyond the limit; otherwise one.
abbrev pub ahead : FaultKind → ℕ
ahead (kinds.Wanted expected found) = if is_byte_or_newline found then 0 else 1
ahead kinds.InvalidNumber = 2
ahead kinds.InvalidDatetime = 2
ahead (kinds.InvalidEscape c) = 2
ahead kinds.ExceededDepthLimit = 2
ahead (kinds.DottedKeyInvalidType first) = 2
ahead kind = 1
