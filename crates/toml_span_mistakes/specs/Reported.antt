-- Reports that outlive the source.
use Rattle.std.specs.Prelude.{ℕ, List, []}
use Rattle.toml_span_lex.specs.declared.stop.Stop.{Stop}
use Rattle.toml_span_lex.specs.declared.stop.Stop.TheVariants as stop
use Rattle.toml_span_tree.specs.Error.{ErrorContent}
use Rattle.toml_span_tree.specs.Errors.{Errors, all}
use Rattle.toml_span_mistakes.specs.Errors.{AddsReports}
use Rattle.toml_span_report.specs.Many.{AreReportTexts}
use Rattle.toml_span_report.specs.Report.{ReportContent}
use Rattle.toml_span_report.specs.declared.colours.Style.{Style}
use Rattle.toml_span_report.specs.declared.report.Severity.TheVariants as severities

-- whether `reports` has a report of each error, in order, and `out` is the text of these reports
abbrev pub AreReported : Style → List ℕ → List ℕ → List ErrorContent → List ReportContent → List ℕ → Type 0
AreReported style name text errors reports out =
    AddsReports severities.Error text errors [] reports × AreReportTexts style name text reports out

-- whether `reports` has a report of each error in a Fault, and `out` is the text of these reports; never for Memory
abbrev pub AreReportsOfStop : Style → List ℕ → List ℕ → Stop Errors → List ReportContent → List ℕ → Type 0
AreReportsOfStop style name text (stop.Fault faults) reports out = AreReported style name text (all faults) reports out
AreReportsOfStop style name text (stop.Memory e) reports out = ⊥
