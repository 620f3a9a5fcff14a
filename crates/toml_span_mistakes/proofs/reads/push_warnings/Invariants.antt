use Rattle.toml_span_lex.proofs.Common.{List, drop, map}
use Rattle.toml_span_tree.specs.Error.{content_of}
use Rattle.toml_span_mistakes.specs.Errors.{AddsReports}
use Rattle.toml_span_report.specs.Report.{ReportContent, report_content}
use Rattle.toml_span_report.specs.declared.report.Severity.TheVariants as severities
use Rattle.toml_span_mistakes.proofs.reads.push_warnings.Given as goal

abbrev pub invariant-loop-warning : goal.invariant-loop-warning
invariant-loop-warning l =
    (after : List ReportContent) → AddsReports severities.Warning l.text (map content_of (drop l.warning-index l.warnings)) (map report_content l.reports.items) after
    → AddsReports severities.Warning l.text (map content_of l.warnings) (map report_content l.initial.reports.items) after
