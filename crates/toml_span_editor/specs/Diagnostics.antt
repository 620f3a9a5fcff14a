-- Diagnostics: reports as an editor shows them.
use Rattle.std.specs.Prelude.{◌≡◌, ◌⊎◌, ℕ, Bool, ◌==◌, ◌&&◌, not, List, [], ◌∷◌, ◌++◌, codes, fold, length, map}
use Rattle.std.specs.Prelude.{string_bytes, if◌then◌else◌}
use Rattle.std.specs.Str.{bytes_eq}
use Rattle.toml_span_lex.specs.declared.span.Span.{Span}
use Rattle.toml_span_lex.specs.declared.stop.Stop.TheVariants.{Fault}
use Rattle.toml_span.specs.Parsing.{IsTree, IsRefusal}
use Rattle.toml_span_read.specs.Data.{depth_limit}
use Rattle.toml_span_tree.specs.Node.{Node}
use Rattle.toml_span_tree.specs.Value.{view}
use Rattle.toml_span_tree.specs.declared.error.Error.{Error}
use Rattle.toml_span_tree.specs.declared.value.Value.{Value}
use Rattle.toml_span_check.specs.Every.{Checks, HasErrors}
use Rattle.toml_span_check.specs.Fixing.{Made}
use Rattle.toml_span_check.specs.Newer.{FixesAll, Lacks}
use Rattle.toml_span_check.specs.Schemas.{Says}
use Rattle.toml_span_check.specs.declared.fixing.FixLevel.TheVariants.{Safe}
use Rattle.toml_span_check.specs.declared.newer.Version.{Version}
use Rattle.toml_span_check.specs.declared.schemas.Chooser.{Chooser}
use Rattle.toml_span_report.specs.Report.{ReportLabel, ReportContent, report_content}
use Rattle.toml_span_report.specs.declared.report.Severity.{Severity}
use Rattle.toml_span_editor.specs.declared.diagnostics.Diagnosed.{Diagnosed}
use Rattle.toml_span_editor.specs.declared.diagnostics.Diagnostic.{Diagnostic}
use Rattle.toml_span_editor.specs.declared.diagnostics.Related.{Related}
use Rattle.toml_span_editor.specs.declared.positions.Encoding.{Encoding}
use Rattle.toml_span_editor.specs.declared.positions.Range.{Range}
use Rattle.toml_span_editor.specs.Edits.{ChangesInto}
use Rattle.toml_span_editor.specs.Labels.{main_span}
use Rattle.toml_span_editor.specs.Partial.{ArePartialReports}
use Rattle.toml_span_editor.specs.Positions.{range_of}

-- a diagnostic as plain data
pub record DiagnosticContent : Type 0 where
  pub range : Range
  pub severity : Severity
  pub code : List ℕ
  pub message : List ℕ
  pub related : List (Range × List ℕ)

abbrev pub related_content : Related → Range × List ℕ
related_content place = (place.range, string_bytes place.message)

abbrev pub diagnostic_content : Diagnostic → DiagnosticContent
diagnostic_content d = record {
  range = d.range;
  severity = d.severity;
  code = string_bytes d.code;
  message = string_bytes d.message;
  related = map related_content d.related.items;
}

-- the text `out` followed by a line that consists of `front` and `line`; `out` alone if `line` is empty
unfoldable pub with_line : List ℕ → List ℕ → List ℕ → List ℕ
with_line front out line =
    if length line == 0 then out
    else (if length out == 0 then out else out ++ codes "\n") ++ front ++ line

-- the text `out` followed by a line with the label's message; `out` alone if the label is not primary, if its message
-- is empty, or if its message equals `message`, the report's message
abbrev pub with_label : List ℕ → List ℕ → ReportLabel → List ℕ
with_label message out label =
    if label.primary && not (bytes_eq label.message message) then with_line [] out label.message else out

-- the message of a report, followed by the messages of its primary labels (if different), its notes, and its help, each
-- on a line
abbrev pub message_of : ReportContent → List ℕ
message_of report =
    fold (with_line (codes "help: "))
    (fold (with_line (codes "note: ")) (fold (with_label report.message) report.message report.labels) report.notes)
    report.help

-- the ranges and messages of the labels that are not primary
abbrev pub related_of : Encoding → List ℕ → List ReportLabel → List (Range × List ℕ)
related_of encoding text [] = []
related_of encoding text (label ∷ labels) =
    if label.primary then related_of encoding text labels
    else (range_of encoding text label.span, label.message) ∷ related_of encoding text labels

-- a report as a diagnostic
unfoldable pub diagnostic_of : Encoding → List ℕ → ReportContent → DiagnosticContent
diagnostic_of encoding text report = record {
  range = range_of encoding text (main_span report.labels);
  severity = report.severity;
  code = report.code;
  message = message_of report;
  related = related_of encoding text report.labels;
}

-- `reports` are the reports on the document `text`, with the tree `root`, of the file `name`. First come those on
-- syntax that `version` lacks, then those of the schema. `complaint` says why the document can't be checked against the
-- schema, or is empty. `says` relates the reports of the schema and `complaint`.
abbrev pub AreDocumentReports : Says → Version → Chooser → List ℕ → List ℕ → Node → List ReportContent → List ℕ
    → Type 0
AreDocumentReports says version chooser name text root reports complaint =
    (lacks found : List ReportContent) × Lacks version name text lacks × says chooser name text root found complaint
    × (reports ≡ lacks ++ found)

-- `reports` are the reports on the text with errors `text`: first those that `Checks` allows, then those of the schema.
abbrev pub AreTextReports : Says → Chooser → List ℕ → List ℕ → List ReportContent → Type 0
AreTextReports says chooser name text reports =
    (errors found : List ReportContent) × Checks text errors × ArePartialReports says chooser name text found
    × (reports ≡ errors ++ found)

-- `reports` are the reports on `text`, the content of the file `name`. If `text` is valid TOML, they and `complaint`
-- are as in `AreDocumentReports`. Otherwise, they are as in `AreTextReports`, and `complaint` is empty.
abbrev pub AreReports : Says → Version → Chooser → List ℕ → List ℕ → List ReportContent → List ℕ → Type 0
AreReports says version chooser name text reports complaint =
    ((root : Value) × IsTree text depth_limit root
    × AreDocumentReports says version chooser name text (view root) reports complaint)
    ⊎ ((error : Error) × IsRefusal text depth_limit (Fault error) × AreTextReports says chooser name text reports
    × (complaint ≡ []))

-- The diagnostics are the reports on `text` as an editor shows them, in the same order.
abbrev pub Shows : Encoding → List ℕ → Diagnosed → Type 0
Shows encoding text made =
    map diagnostic_content made.diagnostics.items
    ≡ map (diagnostic_of encoding text) (map report_content made.reports.items)

-- `made` has the reports on the text (see `AreReports`) and their diagnostics.
abbrev pub Diagnoses : Says → Version → Chooser → List ℕ → Encoding → List ℕ → Diagnosed → Type 0
Diagnoses says version chooser name encoding text made =
    AreReports says version chooser name text (map report_content made.reports.items) (string_bytes made.complaint)
    × Shows encoding text made

-- `reports` are the reports on `text`, the content of the file `name`, which has no schema. If `text` is valid TOML,
-- they are about syntax that `version` lacks. Otherwise, they are those that `Checks` allows.
abbrev pub AreReportsWithoutSchema : Version → List ℕ → List ℕ → List ReportContent → Type 0
AreReportsWithoutSchema version name text reports =
    (((root : Value) × IsTree text depth_limit root) × Lacks version name text reports) ⊎ HasErrors text reports

-- `made` has the reports on a text without a schema (see `AreReportsWithoutSchema`) and their diagnostics, and no
-- complaint.
abbrev pub DiagnosesWithoutSchema : Version → List ℕ → Encoding → List ℕ → Diagnosed → Type 0
DiagnosesWithoutSchema version name encoding text made =
    AreReportsWithoutSchema version name text (map report_content made.reports.items)
    × (string_bytes made.complaint ≡ []) × Shows encoding text made

-- The edits make of the text what `check --fix` writes.
abbrev pub RepairsAll : Version → List ℕ → List ℕ → List (Span × List ℕ) → Type 0
RepairsAll version name text edits = (made : Made) × FixesAll version name Safe text made × ChangesInto text edits made.0
