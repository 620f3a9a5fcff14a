-- A report as one line of JSON.
use Rattle.std.specs.Prelude.{ℕ, Bool, true, false, List, ◌++◌, codes}
use Rattle.std.specs.Fmt.{decimal}
use Rattle.std.specs.List.{join_by}
use Rattle.toml_span_lex.specs.declared.span.Span.{Span}
use Rattle.toml_span_report.specs.Places.{clipped_span, floor_boundary, line_number, column}
use Rattle.toml_span_report.specs.Rendering.{clipped_text, severity_word}
use Rattle.toml_span_report.specs.Report.{ReportLabel, Repair, ReportContent}
use Rattle.toml_span_report.specs.Visible.{quoted}

-- ---- labels

-- the beginning of a label, with the member `primary`
abbrev pub role_json : Bool → List ℕ
role_json true = codes "{\"primary\":true"
role_json false = codes "{\"primary\":false"

-- the members `start` and `end` of a label or replacement: byte offsets from 0
unfoldable pub span_json : Span → List ℕ
span_json span = codes ",\"start\":" ++ decimal span.start ++ codes ",\"end\":" ++ decimal span.end

-- two members with the line and the column of the offset `at`, both counted from 1, after their titles, such as
-- `,"line":`
unfoldable pub place_json : List ℕ → List ℕ → List ℕ → ℕ → List ℕ
place_json line_title column_title text at =
    line_title ++ decimal (line_number text (floor_boundary text at))
    ++ column_title ++ decimal (column text (floor_boundary text at))

-- the members `start`, `end`, `line`, `column`, `end_line` and `end_column` of a label at `span`
unfoldable pub spot_json : List ℕ → Span → List ℕ
spot_json text span =
    span_json (clipped_span text span)
    ++ place_json (codes ",\"line\":") (codes ",\"column\":") text span.start
    ++ place_json (codes ",\"end_line\":") (codes ",\"end_column\":") text (clipped_span text span).end

-- a member whose value is the string `text`; `title` is the text before the string, such as `,"code":`
abbrev pub member_json : List ℕ → List ℕ → List ℕ
member_json title text = title ++ quoted text

-- a text for people, cut after 1,000 bytes
abbrev pub clipped_json : List ℕ → List ℕ
clipped_json text = quoted (clipped_text text)

-- a label of these parts
unfoldable pub parts_json : List ℕ → Bool → Span → List ℕ → List ℕ
parts_json text is_primary span message =
    role_json is_primary ++ spot_json text span ++ codes ",\"message\":" ++ clipped_json message ++ codes "}"

unfoldable pub label_json : List ℕ → ReportLabel → List ℕ
label_json text mark = parts_json text mark.primary mark.span mark.message

-- ---- reports

-- an array of labels, and an array of strings
abbrev pub labels_json : List ℕ → List ReportLabel → List ℕ
labels_json text marks = codes "[" ++ join_by (label_json text) (codes ",") marks ++ codes "]"

abbrev pub texts_json : List (List ℕ) → List ℕ
texts_json texts = codes "[" ++ join_by clipped_json (codes ",") texts ++ codes "]"

-- the beginning of a replacement, with the member `safe`; and a replacement of these parts
abbrev pub safety_json : Bool → List ℕ
safety_json true = codes "{\"safe\":true"
safety_json false = codes "{\"safe\":false"

unfoldable pub fix_parts_json : Bool → Span → List ℕ → List ℕ
fix_parts_json is_safe span text =
    safety_json is_safe ++ span_json span ++ member_json (codes ",\"text\":") text ++ codes "}"

unfoldable pub fix_json : Repair → List ℕ
fix_json r = fix_parts_json r.is_safe r.span r.text

abbrev pub fixes_json : List Repair → List ℕ
fixes_json fixes = join_by fix_json (codes ",") fixes

-- the beginning of the line, with the name of the file, the code and the message
abbrev pub head_json : ReportContent → List ℕ → List ℕ
head_json r name =
    member_json (codes "{\"file\":") name ++ member_json (codes ",\"code\":") r.code
    ++ codes ",\"message\":" ++ clipped_json r.message

-- the severity, the notes and the help
abbrev pub remarks_json : ReportContent → List ℕ
remarks_json r =
    member_json (codes ",\"severity\":") (severity_word r.severity) ++ codes ",\"notes\":" ++ texts_json r.notes
    ++ codes ",\"help\":" ++ texts_json r.help

-- the whole line, with a line feed at the end
abbrev pub report_json : ReportContent → List ℕ → List ℕ → List ℕ
report_json r name text =
    head_json r name ++ codes ",\"labels\":" ++ labels_json text r.labels ++ remarks_json r
    ++ codes ",\"fixes\":[" ++ fixes_json r.replacements ++ codes "]}\n"
