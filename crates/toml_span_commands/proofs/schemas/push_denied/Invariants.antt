use Rattle.toml_span_lex.proofs.Common.{◌≡◌, ◌++◌, map, into_iter_items}
use Rattle.toml_span_report.specs.Report.{report_content}
use Rattle.toml_span_commands.specs.Configured.{denied}
use Rattle.toml_span_commands.proofs.schemas.push_denied.Given as goal

abbrev pub invariant-loop-report : goal.invariant-loop-report
invariant-loop-report l =
    map report_content l.reports.items ++ map (denied l.is_denied) (map report_content (into_iter_items l.report-iterator))
    ≡ map report_content l.fn.reports.items ++ map (denied l.is_denied) (map report_content l.fn.found.items)
