use Rattle.toml_span_lex.proofs.Common.{rules}
use Rattle.toml_span_report.specs.Report.{report_content}
use Rattle.toml_span_check.proofs.fixing.with_error_fixed.Goals as goal

pub returns : goal.returns
returns c = (report_content c.in_ok-report.report, c.in_ok-report.ensures, search rules)
