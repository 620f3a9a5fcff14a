use Rattle.toml_span_lex.proofs.Common.{◌≡◌, ◌++◌, map, take, string_bytes}
use Rattle.toml_span_report.specs.Report.{report_content}
use Rattle.toml_span_check.specs.Answer.{reports_text}
use Rattle.toml_span_check.proofs.answer.push_reports.Given as goal

abbrev pub invariant-loop-report : goal.invariant-loop-report
invariant-loop-report l =
    string_bytes l.out ≡ string_bytes l.fn.out ++ reports_text l.format l.are_fixable l.name l.text (map report_content (take l.report-index l.reports))
