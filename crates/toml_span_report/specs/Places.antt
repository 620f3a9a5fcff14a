-- Offsets in a text, and the lines and columns where they are.
use Rattle.std.specs.Prelude.{ℕ, zero, suc, ◌+◌, ◌-◌, ◌≤◌, max, min, Bool, ◌==◌, ◌&&◌, ◌||◌, not, nat_lt, nat_le}
use Rattle.std.specs.Prelude.{List, length, take, drop, slice_index, slice_range, if◌then◌else◌}
use Rattle.std.specs.List.{count_by, position_or_len}
use Rattle.std.specs.Str.{IsCharBoundary, chars}
use Rattle.toml_span_lex.specs.declared.span.Span.{Span}

-- whether a character begins with the byte
abbrev pub begins_character : ℕ → Bool
begins_character byte = not (nat_le 128 byte && nat_lt byte 192)

-- whether a character begins at i, or the text ends there
abbrev pub is_between : List ℕ → ℕ → Bool
is_between text i = nat_le i (length text) && begins_character (slice_index text i)

-- the nearest character boundary at or before i, at most the length of the text
unfoldable pub floor_boundary : List ℕ → ℕ → ℕ
floor_boundary text zero = 0
floor_boundary text (suc i) = if is_between text (suc i) then suc i else floor_boundary text i

-- the nearest character boundary at or after i, or the length of the text if i is beyond it
unfoldable pub ceil_boundary : List ℕ → ℕ → ℕ
ceil_boundary text i =
    min i (length text) + position_or_len begins_character (drop (min i (length text)) text)

-- the part of a span that is in the text, widened to whole characters; a reversed span becomes empty
unfoldable pub clipped_span : List ℕ → Span → Span
clipped_span text span = record {
  start = floor_boundary text span.start;
  end = ceil_boundary text (max span.end (floor_boundary text span.start));
}

-- The span is in the text, and begins and ends at character boundaries.
pub record LiesIn (text : List ℕ) (span : Span) : Type 0 where
  pub forward : span.start ≤ span.end
  pub within : span.end ≤ length text
  pub begins : IsCharBoundary text span.start
  pub ends : IsCharBoundary text span.end

abbrev pub is_line_feed : ℕ → Bool
is_line_feed byte = byte == 10

-- the length of the byte order mark at the start of the text, or 0 without a mark
unfoldable pub bom_end : List ℕ → ℕ
bom_end text =
    if slice_index text 0 == 0xEF && (slice_index text 1 == 0xBB && slice_index text 2 == 0xBF) then 3 else 0

-- the start of the line that contains an offset: after the last line feed before the offset or, on the first line, at
-- the start of the text, after a byte order mark unless the offset is 0
unfoldable pub line_start : List ℕ → ℕ → ℕ
line_start text zero = 0
line_start text (suc i) = if suc i == bom_end text || slice_index text i == 10 then suc i else line_start text i

-- the end of the line that contains `at`: before its LF or CRLF (`without_return`), or at the end of the text
abbrev pub without_return : List ℕ → ℕ → ℕ → ℕ
without_return text at end =
    if nat_lt at end && (nat_lt end (length text) && slice_index text (end - 1) == 13) then end - 1 else end

unfoldable pub line_end : List ℕ → ℕ → ℕ
line_end text at = without_return text at (at + position_or_len is_line_feed (drop at text))

-- the number of the line that contains `at`, counted from 1
unfoldable pub line_number : List ℕ → ℕ → ℕ
line_number text at = count_by is_line_feed (take at text) + 1

-- the column of the offset `at`, counted from 1 in characters
unfoldable pub column : List ℕ → ℕ → ℕ
column text at = length (chars (slice_range text (line_start text at) at)) + 1

-- The start and the end of a span, as character boundaries. A byte order mark at the start of the text and a line feed
-- at the span's end are left out, and a reversed span is empty.
unfoldable pub span_start : List ℕ → Span → ℕ
span_start text span = max (floor_boundary text span.start) (bom_end text)

abbrev pub without_feed : List ℕ → ℕ → ℕ → ℕ
without_feed text from to = if nat_lt from to && slice_index text (to - 1) == 10 then to - 1 else to

unfoldable pub span_end : List ℕ → Span → ℕ
span_end text span =
    without_feed text (max (floor_boundary text span.start) (bom_end text))
    (max (floor_boundary text (max span.start span.end)) (bom_end text))
