use Rattle.toml_span_lex.proofs.Common.{◌≡◌, ◌≤◌, map, take, count_by}
use Rattle.toml_span_report.specs.Many.{is_of}
use Rattle.toml_span_report.specs.Report.{report_content}
use Rattle.toml_span_report.proofs.many.count_of.Given as goal

abbrev pub invariant-loop-report : goal.invariant-loop-report
invariant-loop-report l = record {
  value : l.count ≡ count_by (is_of l.severity) (map report_content (take l.report-index l.reports));
  within : l.count ≤ l.report-index;
}
