-- The reports of errors, and the text of these reports.
use Rattle.std.specs.Prelude.{◌≡◌, ℕ, true, ◌⊎◌, List, [], ◌∷◌, ◌++◌, codes, map, All, Any, IsSome, Some, ⊤}
use Rattle.toml_span_lex.specs.declared.span.Span.{Span}
use Rattle.toml_span_lex.specs.declared.stop.Stop.{Stop}
use Rattle.toml_span_lex.specs.declared.stop.Stop.TheVariants as stop
use Rattle.toml_span_tree.specs.Diagnostic.{labels_of, primary}
use Rattle.toml_span_tree.specs.Error.{ErrorContent, Kind, unexpected_keys, unexpected_value, unexpected, out_of_range}
use Rattle.toml_span_tree.specs.Error.{missing_field, deprecated, wanted}
use Rattle.toml_span_tree.specs.Message.{code_of, display_text}
use Rattle.toml_span_tree.specs.Errors.{Errors, all}
use Rattle.toml_span_report.specs.Explanations.{explained}
use Rattle.toml_span_report.specs.Many.{AreReportTexts}
use Rattle.toml_span_report.specs.Places.{LiesIn}
use Rattle.toml_span_report.specs.Rendering.{report_text}
use Rattle.toml_span_report.specs.Report.{ReportLabel, Repair, ReportContent}
use Rattle.toml_span_mistakes.specs.UnknownKeys.{expected_keys, key_label, one_of, suggestions, unknown_keys}
use Rattle.toml_span_mistakes.specs.UnknownKeys.{deprecated as renamed}
use Rattle.toml_span_report.specs.declared.colours.Style.{Style}
use Rattle.toml_span_report.specs.declared.report.Severity.{Severity}
use Rattle.toml_span_report.specs.declared.report.Severity.TheVariants as severities

-- ---- an error without a recognized mistake

-- its message, which most errors have from `Display`
abbrev pub message : Kind → List ℕ
message (unexpected_keys keys expected) = unknown_keys (map (λ key. key.0) keys)
message (unexpected_value expected value) = one_of expected
message (out_of_range name) = codes "out of range of `" ++ name ++ codes "`"
message (missing_field field) = codes "missing key `" ++ field ++ codes "`"
message (deprecated old new) = renamed old new
message kind = display_text kind

-- its labels, which most errors have from their diagnostic; `span` is what the primary label marks
abbrev pub one_label : Span → List ℕ → List ReportLabel
one_label span text = primary tt span text ∷ []

abbrev pub labels : Span → Kind → List ReportLabel
labels span (unexpected_keys keys expected) = map key_label keys
labels span (unexpected c) = one_label span []
labels span (missing_field field) = one_label span (codes "this table lacks the key")
labels span (deprecated old new) = one_label span (codes "deprecated key")
labels span kind = labels_of tt span kind

-- its notes and help; the help on ranges of numbers is not defined
abbrev pub notes : Kind → List (List ℕ)
notes (unexpected_keys keys expected) = expected_keys expected ∷ []
notes kind = []

abbrev pub HasHelp : Kind → List (List ℕ) → Type 0
HasHelp (unexpected_keys keys expected) help = help ≡ suggestions (map (λ key. key.0) keys) expected
HasHelp (unexpected_value expected (Some value)) help = help ≡ suggestions (value ∷ []) expected
HasHelp (out_of_range name) help = ⊤
HasHelp (wanted expected found) help = ⊤
HasHelp kind help = help ≡ []

-- The report shows the error itself: its code and message, its notes and help, and its labels, with the primary one
-- where the error starts.
pub record ShowsError (error : ErrorContent) (report : ReportContent) : Type 0 where
  pub span : Span
  pub place : span.start ≡ error.span.start
  pub code : report.code ≡ code_of error.kind
  pub message : report.message ≡ message error.kind
  pub labels : report.labels ≡ labels span error.kind
  pub notes : report.notes ≡ notes error.kind
  pub help : HasHelp error.kind report.help

-- ---- all errors

-- whether `explain` knows a code
abbrev pub IsExplained : List ℕ → Type 0
IsExplained code = IsSome (explained code)

abbrev pub lies : List ℕ → ReportLabel → Type 0
lies text mark = LiesIn text mark.span

-- Labels that mark a mistake are in the text, between characters, and one is primary.
pub record MarksMistake (text : List ℕ) (marks : List ReportLabel) : Type 0 where
  pub lie : All (lies text) marks
  pub primary : Any (λ mark. mark.primary ≡ true) marks

-- The report shows a mistake that was recognized. Its code is that of the mistake, one that `explain` knows.
pub record ShowsMistake (text : List ℕ) (report : ReportContent) : Type 0 where
  pub code : IsExplained report.code
  pub marks : MarksMistake text report.labels

-- whether all replacements are in the text, between characters
abbrev pub AreRepairs : List ℕ → List Repair → Type 0
AreRepairs text repairs = All (λ repair. LiesIn text repair.span) repairs

-- The report is about this error. Which mistakes are recognized, what the report says about one, and which replacements
-- it has, is not defined.
pub record ReportsError (given : Severity) (text : List ℕ) (error : ErrorContent) (report : ReportContent) : Type 0 where
  pub severity : report.severity ≡ given
  pub shown : ShowsError error report ⊎ ShowsMistake text report
  pub replacements : AreRepairs text report.replacements

-- whether `out` is the text of the report of an error
abbrev pub IsReport : Style → List ℕ → List ℕ → ErrorContent → List ℕ → Type 0
IsReport style name text error out =
    (report : ReportContent) × ReportsError severities.Error text error report
    × (out ≡ report_text style report name text)

-- whether `after` has the reports in `before`, and then a report of each error, in order
abbrev pub AddsReports : Severity → List ℕ → List ErrorContent → List ReportContent → List ReportContent → Type 0
AddsReports severity text [] before after = after ≡ before
AddsReports severity text (error ∷ errors) before after =
    (report : ReportContent) × ReportsError severity text error report
    × AddsReports severity text errors (before ++ report ∷ []) after

-- whether `out` is the text of the reports of `errors`
abbrev pub AreReports : Style → List ℕ → List ℕ → List ErrorContent → List ℕ → Type 0
AreReports style name text errors out =
    (reports : List ReportContent) × AddsReports severities.Error text errors [] reports
    × AreReportTexts style name text reports out

-- whether `out` is the text of the reports of the errors in a Fault; never for Memory
abbrev pub AreShown : Style → List ℕ → List ℕ → Stop Errors → List ℕ → Type 0
AreShown style name text (stop.Fault faults) out = AreReports style name text (all faults) out
AreShown style name text (stop.Memory e) out = ⊥
