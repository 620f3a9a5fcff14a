use Rattle.toml_span_lex.proofs.Common.{◌≡◌, ◌+◌, drop, map}
use Rattle.toml_span_report.specs.Report.{report_content}
use Rattle.toml_span_check.specs.Schemas.{errors_in}
use Rattle.toml_span_check.proofs.schemas.with_errors.Given as goal

abbrev pub invariant-loop-report : goal.invariant-loop-report
invariant-loop-report l =
    l.sum + errors_in (map report_content (drop l.report-index l.reports))
    ≡ l.fn.count + errors_in (map report_content l.reports)
