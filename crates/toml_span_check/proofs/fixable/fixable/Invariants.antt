use Rattle.toml_span_lex.proofs.Common.{◌≡◌, ◌≤◌, map, take, count_by}
use Rattle.toml_span_report.specs.Report.{report_content}
use Rattle.toml_span_check.specs.Fixable.{has_fix}
use Rattle.toml_span_check.proofs.fixable.fixable.Given as goal

abbrev pub invariant-loop-report : goal.invariant-loop-report
invariant-loop-report l = record {
  value : l.count ≡ count_by (has_fix l.is_safe) (map report_content (take l.report-index l.reports));
  within : l.count ≤ l.report-index;
}
