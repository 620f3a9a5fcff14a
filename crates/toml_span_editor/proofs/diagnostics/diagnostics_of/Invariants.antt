use Rattle.toml_span_lex.proofs.Common.{◌≡◌, map, take}
use Rattle.toml_span_report.specs.Report.{report_content}
use Rattle.toml_span_editor.specs.Diagnostics.{diagnostic_content, diagnostic_of}
use Rattle.toml_span_editor.proofs.diagnostics.diagnostics_of.Given as goal

abbrev pub invariant-loop-report : goal.invariant-loop-report
invariant-loop-report l =
    map diagnostic_content l.found.items
    ≡ map (diagnostic_of l.table.encoding l.table.text.now) (map report_content (take l.report-index l.reports))
