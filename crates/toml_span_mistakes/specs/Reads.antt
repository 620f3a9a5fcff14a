-- The reports of a typed read.
use Rattle.std.specs.Prelude.{ℕ, List, [], Result, Ok, Err}
use Rattle.toml_span_lex.specs.declared.stop.Stop.{Stop}
use Rattle.toml_span_lex.specs.declared.stop.Stop.TheVariants as stop
use Rattle.toml_span_tree.specs.Error.{ErrorContent}
use Rattle.toml_span_tree.specs.Errors.{Errors, all}
use Rattle.toml_span_mistakes.specs.Errors.{AddsReports}
use Rattle.toml_span_report.specs.Report.{ReportContent}
use Rattle.toml_span_report.specs.declared.report.Severity.TheVariants as severities

-- the errors of a read: empty if the read succeeded or an allocation failed
abbrev pub errors_of : {T : Type 0} → Result T (Stop Errors) → List ErrorContent
errors_of (Ok x) = []
errors_of (Err (stop.Fault faults)) = all faults
errors_of (Err (stop.Memory error)) = []

-- whether `reports` are the reports of the warnings of a read, and then those of its errors
abbrev pub AreReportsOf : {T : Type 0} → Result T (Stop Errors) → List ErrorContent → List ℕ → List ReportContent
    → Type 0
AreReportsOf read warnings text reports =
    (warned : List ReportContent) × AddsReports severities.Warning text warnings [] warned
    × AddsReports severities.Error text (errors_of read) warned reports
