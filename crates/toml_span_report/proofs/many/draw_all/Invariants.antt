use Rattle.toml_span_lex.proofs.Common.{◌≡◌, map, take}
use Rattle.toml_span_report.specs.Many.{drawn_with_offset, drawn_content}
use Rattle.toml_span_report.specs.Report.{report_content}
use Rattle.toml_span_report.proofs.many.draw_all.Given as goal

abbrev pub invariant-loop-report : goal.invariant-loop-report
invariant-loop-report l =
    map drawn_content l.made.items
    ≡ map (λ report. drawn_with_offset l.style l.name l.text (report_content report)) (take l.report-index l.reports)
