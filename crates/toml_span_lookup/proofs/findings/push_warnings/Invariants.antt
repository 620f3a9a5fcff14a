use Rattle.toml_span_lex.proofs.Common.{map}
use Rattle.toml_span_report.specs.Report.{report_content}
use Rattle.toml_span_lookup.specs.Findings.{AddsWarnings}
use Rattle.toml_span_lookup.proofs.findings.push_warnings.Given as goal

abbrev pub invariant-loop-report : goal.invariant-loop-report
invariant-loop-report l = AddsWarnings (map report_content l.fn.reports.items) (map report_content l.reports.items)
