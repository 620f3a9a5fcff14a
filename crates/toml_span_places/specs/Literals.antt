-- The literals of values: strings with their quotes.
use Rattle.std.specs.Prelude.{ℕ, ◌+◌, ◌-◌, Bool, not, ◌==◌, ◌&&◌, nat_lt, List, length, slice_index, if◌then◌else◌}
use Rattle.std.specs.Prelude.{Option, Some, None}
use Rattle.toml_span_lex.specs.Bytes.{line_feed, carriage_return}
use Rattle.toml_span_lex.specs.declared.span.Span.{Span}
use Rattle.toml_span_tree.specs.Node.{Node}
use Rattle.toml_span_tree.specs.Value.{inner_of, span_of, text_in, text_of}
use Rattle.toml_span_read.specs.Data.{ParsedInner, ParsedValue, parsed, scalar, array, inline}
use Rattle.toml_span_places.specs.Keys.{is_quote}

-- the byte `back` bytes before the offset `at`, or 0 if the text has no such byte
abbrev pub byte_before : List ℕ → ℕ → ℕ → ℕ
byte_before text at back = if nat_lt at back then 0 else slice_index text (at - back)

-- The end of the opening quotes of a string whose content begins at the offset `from`. A line end may be between the
-- quotes and the content; it belongs to neither.
abbrev pub after_quotes : List ℕ → ℕ → ℕ
after_quotes text from =
    if not (byte_before text from 1 == line_feed) then from
    else if byte_before text from 2 == carriage_return then from - 2
    else from - 1

-- the number of quotes that open the string whose opening quotes end at the offset `at`: three or one
abbrev pub quotes_before : List ℕ → ℕ → ℕ
quotes_before text at =
    let quote = byte_before text at 1 in
    if is_quote quote && (byte_before text at 2 == quote && byte_before text at 3 == quote) then 3 else 1

-- The span of a string with its quotes. `span` is the span that reading gives the string: that of its content or, for
-- an empty single-line string, of its opening quote.
abbrev pub string_literal : List ℕ → Span → Bool → Span
string_literal text span empty =
    if not (nat_lt span.end (length text)) then span
    else if empty && span.end == span.start + 1 then record { start = span.start; end = span.end + 1 }
    else
    let after = after_quotes text span.start in
    let quotes = quotes_before text after in
    record { start = after - quotes; end = span.end + quotes }

abbrev pub string_or_span : List ℕ → Span → Option (List ℕ) → Span
string_or_span text span (Some string) = string_literal text span (length string == 0)
string_or_span text span None = span

-- the span of a value's literal
abbrev pub literal_span : List ℕ → Node → Span
literal_span text n = string_or_span text (span_of n) (text_in (inner_of n))

-- the text of a value in the sections of a document, if it is a string
abbrev pub parsed_text : ParsedInner → Option (List ℕ)
parsed_text (scalar s) = text_of s
parsed_text (array vs) = None
parsed_text (inline ps) = None

-- the span of the literal of a value in the sections of a document
abbrev pub val_literal_span : List ℕ → ParsedValue → Span
val_literal_span text (parsed i span) = string_or_span text span (parsed_text i)
