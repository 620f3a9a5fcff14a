-- The reports of a run as one document in the Static Analysis Results Interchange Format (SARIF), version 2.1.0. Its
-- rules are a constant text. Each report is a result, on a separate line.
use Rattle.std.specs.Prelude.{ℕ, ◌/◌, ◌%◌, ◌-◌, Bool, ◌==◌, ◌&&◌, ◌||◌, nat_le}
use Rattle.std.specs.Prelude.{List, [], ◌∷◌, ◌++◌, codes, if◌then◌else◌}
use Rattle.std.specs.Fmt.{decimal}
use Rattle.std.specs.List.{flat_map}
use Rattle.toml_span_lex.specs.declared.span.Span.{Span}
use Rattle.toml_span_lines.specs.Lines.{hex_digit}
use Rattle.toml_span_report.specs.JsonLine.{clipped_json}
use Rattle.toml_span_report.specs.Places.{clipped_span}
use Rattle.toml_span_report.specs.Report.{ReportLabel, Repair, ReportContent}
use Rattle.toml_span_report.specs.declared.report.Severity.{Severity}
use Rattle.toml_span_report.specs.declared.report.Severity.TheVariants.{Error, Warning, Note}
use Rattle.toml_span_report.specs.Visible.{quoted}
use Rattle.toml_span_check.specs.Github.{line_column}
use Rattle.toml_span_check.specs.declared.sarif.TheConstants.{HEAD, TAIL}

abbrev pub level_of : Severity → List ℕ
level_of Error = codes "error"
level_of Warning = codes "warning"
level_of Note = codes "note"

-- ---- the URI of a file

-- unreserved = ALPHA / DIGIT / "-" / "." / "_" / "~"     (RFC 3986); and the slash between the parts of a path
abbrev pub is_plain : ℕ → Bool
is_plain byte =
    (nat_le 65 byte && nat_le byte 90) || (nat_le 97 byte && nat_le byte 122) || (nat_le 48 byte && nat_le byte 57)
    || byte == 45 || byte == 46 || byte == 95 || byte == 126 || byte == 47

-- pct-encoded = "%" HEXDIG HEXDIG
abbrev pub uri_byte : ℕ → List ℕ
uri_byte byte = if is_plain byte then byte ∷ [] else 37 ∷ hex_digit (byte / 16) ∷ hex_digit (byte % 16) ∷ []

-- a name that begins with a slash is an absolute path, any other is relative to the current directory
abbrev pub scheme_of : List ℕ → List ℕ
scheme_of [] = []
scheme_of (c ∷ cs) = if c == 47 then codes "file://" else []

unfoldable pub uri : List ℕ → List ℕ
uri name = scheme_of name ++ flat_map uri_byte name

-- ---- places

-- the location of a file, without the closing brace
unfoldable pub artifact : List ℕ → List ℕ
artifact name = codes "{\"artifactLocation\":{\"uri\":\"" ++ uri name ++ codes "\"}"

-- Lines and columns are counted from 1, columns in characters. The end column is the one after the last character. A
-- span whose end is before its start is shown as empty.
unfoldable pub lines : ℕ × ℕ → ℕ × ℕ → List ℕ
lines start end =
    codes "{\"startLine\":" ++ decimal start.0 ++ codes ",\"startColumn\":" ++ decimal start.1
    ++ codes ",\"endLine\":" ++ decimal end.0 ++ codes ",\"endColumn\":" ++ decimal end.1

-- the byte range of a region; offsets are counted from 0
unfoldable pub bytes : ℕ → ℕ → List ℕ
bytes start end =
    codes ",\"byteOffset\":" ++ decimal start ++ codes ",\"byteLength\":" ++ decimal (end - start) ++ codes "}"

-- the region of a span in the source, in whole characters
abbrev pub within : List ℕ → Span → List ℕ
within text span = lines (line_column text span.start) (line_column text span.end) ++ bytes span.start span.end

abbrev pub region : List ℕ → Span → List ℕ
region text span = within text (clipped_span text span)

-- the message of a label, if it has one
unfoldable pub message : List ℕ → List ℕ
message text = codes ",\"message\":{\"text\":" ++ clipped_json text ++ codes "}"

abbrev pub label_message : List ℕ → List ℕ
label_message [] = []
label_message (c ∷ cs) = message (c ∷ cs)

unfoldable pub location : List ℕ → List ℕ → ReportLabel → List ℕ
location name text label =
    codes "{\"physicalLocation\":" ++ artifact name ++ codes ",\"region\":" ++ region text label.span ++ codes "}"
    ++ label_message label.message ++ codes "}"

unfoldable pub file_alone : List ℕ → List ℕ
file_alone name = codes "{\"physicalLocation\":" ++ artifact name ++ codes "}}"

-- the location of the first primary label or, without one, of the file
abbrev pub primary_location : List ℕ → List ℕ → List ReportLabel → List ℕ
primary_location name text [] = file_alone name
primary_location name text (label ∷ labels) =
    if label.primary then location name text label else primary_location name text labels

-- the location of a secondary label, after a comma
abbrev pub other : List ℕ → List ℕ → ReportLabel → List ℕ
other name text label = if label.primary then [] else codes "," ++ location name text label

-- the text without the comma at its start, if there is one
abbrev pub without_comma : List ℕ → List ℕ
without_comma [] = []
without_comma (c ∷ cs) = if c == 44 then cs else c ∷ cs

unfoldable pub related : List ℕ → List ℕ → List ReportLabel → List ℕ
related name text labels = without_comma (flat_map (other name text) labels)

unfoldable pub places : List ℕ → List ℕ → List ReportLabel → List ℕ
places name text labels =
    codes ",\"locations\":[" ++ primary_location name text labels ++ codes "],\"relatedLocations\":["
    ++ related name text labels ++ codes "]"

-- ---- fixes

unfoldable pub replacement : List ℕ → Repair → List ℕ
replacement text fix =
    codes "{\"deletedRegion\":" ++ region text fix.span ++ codes ",\"insertedContent\":{\"text\":" ++ quoted fix.text
    ++ codes "}}"

-- a fix that consists of these replacements
unfoldable pub change : List ℕ → List ℕ → Repair → List Repair → List ℕ
change name text first more =
    codes ",\"fixes\":[{\"artifactChanges\":[" ++ artifact name ++ codes ",\"replacements\":["
    ++ replacement text first ++ flat_map (λ fix. codes "," ++ replacement text fix) more ++ codes "]}]}]"

-- the fix of a report, if it has replacements
abbrev pub fixes : List ℕ → List ℕ → List Repair → List ℕ
fixes name text [] = []
fixes name text (first ∷ more) = change name text first more

-- ---- results

unfoldable pub front : ReportContent → List ℕ
front r =
    codes ",\n{\"ruleId\":" ++ quoted r.code ++ codes ",\"level\":\"" ++ level_of r.severity
    ++ codes "\",\"message\":{\"text\":" ++ clipped_json r.message ++ codes "}"

-- a report as a result, after a comma and a line feed
abbrev pub sarif : ReportContent → List ℕ → List ℕ → List ℕ
sarif r name text = front r ++ places name text r.labels ++ fixes name text r.replacements ++ codes "}"

-- ---- the document

unfoldable pub document : List ℕ → List ℕ
document results = HEAD.now ++ without_comma results ++ TAIL.now
