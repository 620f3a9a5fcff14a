use Rattle.toml_span_lex.proofs.Common.{List, map}
use Rattle.toml_span_tree.specs.Errors.{all}
use Rattle.toml_span_mistakes.specs.Errors.{AddsReports}
use Rattle.toml_span_report.specs.Report.{ReportContent, report_content}
use Rattle.toml_span_report.specs.declared.report.Severity.TheVariants as severities
use Rattle.toml_span_mistakes.proofs.errors.push_errors.Given as goal

abbrev pub invariant-loop-error : goal.invariant-loop-error
invariant-loop-error l =
    (after : List ReportContent) → AddsReports severities.Error l.text l.error-iterator (map report_content l.reports.items) after
    → AddsReports severities.Error l.text (all l.errors) (map report_content l.initial.reports.items) after
