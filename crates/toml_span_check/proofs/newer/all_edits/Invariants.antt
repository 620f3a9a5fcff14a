use Rattle.toml_span_lex.proofs.Common.{◌≡◌, ◌++◌, drop, map}
use Rattle.toml_span_places.specs.Replace.{edit_of}
use Rattle.toml_span_report.specs.Report.{report_content}
use Rattle.toml_span_check.specs.Newer.{all_edits}
use Rattle.toml_span_check.proofs.newer.all_edits.Given as goal

abbrev pub invariant-loop-report : goal.invariant-loop-report
invariant-loop-report l =
    map edit_of l.edits.items ++ all_edits (map report_content (drop l.report-index l.reports))
    ≡ all_edits (map report_content l.reports)
