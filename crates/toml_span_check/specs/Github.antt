-- A report as a command for GitHub workflows, which annotates source lines:
-- `::error file=a.toml,line=2,endLine=2,col=1,endColumn=5,title=duplicate-key::duplicate key: `port``
use Rattle.std.specs.Prelude.{ℕ, ◌-◌, max, ◌==◌, ◌&&◌, nat_lt, nat_le, List, [], ◌∷◌, ◌++◌, codes, length}
use Rattle.std.specs.Prelude.{encode_utf8, slice_index, if◌then◌else◌}
use Rattle.std.specs.Fmt.{decimal}
use Rattle.std.specs.List.{flat_map}
use Rattle.std.specs.Str.{chars}
use Rattle.toml_span_lex.specs.declared.span.Span.{Span}
use Rattle.toml_span_report.specs.Places.{clipped_span, floor_boundary, line_number, column}
use Rattle.toml_span_report.specs.Rendering.{clipped_text}
use Rattle.toml_span_report.specs.Report.{ReportLabel, ReportContent}
use Rattle.toml_span_report.specs.declared.report.Severity.{Severity}
use Rattle.toml_span_report.specs.declared.report.Severity.TheVariants.{Error, Warning, Note}
use Rattle.toml_span_report.specs.Visible.{visible}

abbrev pub command_of : Severity → List ℕ
command_of Error = codes "::error"
command_of Warning = codes "::warning"
command_of Note = codes "::notice"

-- ---- texts

-- A character as it is escaped in a message. GitHub unescapes percent signs and line ends, and in the value of a
-- property also colons and commas.
abbrev pub message_char : ℕ → List ℕ
message_char c =
    if c == 37 then codes "%25" else if c == 13 then codes "%0D" else if c == 10 then codes "%0A" else encode_utf8 c

abbrev pub property_char : ℕ → List ℕ
property_char c = if c == 58 then codes "%3A" else if c == 44 then codes "%2C" else message_char c

unfoldable pub escaped_message : List ℕ → List ℕ
escaped_message text = flat_map message_char (chars text)

unfoldable pub escaped_property : List ℕ → List ℕ
escaped_property text = flat_map property_char (chars text)

-- a message, cut after 1,000 bytes, escaped for GitHub and then as in all other reports, which show U+001B as `\u001b`
abbrev pub message : List ℕ → List ℕ
message text = visible (escaped_message (clipped_text text))

abbrev pub property : List ℕ → List ℕ
property text = visible (escaped_property text)

-- ---- places

-- the end of a span or, if the span ends with a line feed, the offset of the line feed; if the span ends before its
-- start, the start
abbrev pub marked_end : List ℕ → Span → ℕ
marked_end text span =
    if nat_lt span.start span.end && (nat_le span.end (length text) && slice_index text (span.end - 1) == 10)
    then span.end - 1 else max span.start span.end

-- the line and the column of an offset, both counted from 1
abbrev pub line_column : List ℕ → ℕ → ℕ × ℕ
line_column text at = (line_number text (floor_boundary text at), column text (floor_boundary text at))

-- GitHub accepts columns only if the start and the end are on the same line. The end column is the one after the last
-- character.
unfoldable pub columns : ℕ × ℕ → ℕ × ℕ → List ℕ
columns start end =
    if start.0 == end.0 then codes ",col=" ++ decimal start.1 ++ codes ",endColumn=" ++ decimal end.1 else []

unfoldable pub line_properties : ℕ × ℕ → ℕ × ℕ → List ℕ
line_properties start end =
    codes ",line=" ++ decimal start.0 ++ codes ",endLine=" ++ decimal end.0 ++ columns start end

abbrev pub region_properties : List ℕ → Span → List ℕ
region_properties text span =
    let span = clipped_span text span in
    line_properties (line_column text span.start) (line_column text (marked_end text span))

-- the line numbers of the first primary label and, if it is on one line, its columns; nothing if no label is primary
abbrev pub primary_region : List ℕ → List ReportLabel → List ℕ
primary_region text [] = []
primary_region text (label ∷ labels) =
    if label.primary then region_properties text label.span else primary_region text labels

-- ---- the line

abbrev pub github : ReportContent → List ℕ → List ℕ → List ℕ
github r name text =
    command_of r.severity ++ codes " file=" ++ property name ++ primary_region text r.labels ++ codes ",title="
    ++ property r.code ++ codes "::" ++ message r.message ++ codes "\n"
