use Rattle.toml_span_lex.proofs.Common.{◌≡◌, ◌++◌, map, into_iter_items}
use Rattle.toml_span_report.specs.Report.{report_content}
use Rattle.toml_span_editor.specs.Partial.{certain}
use Rattle.toml_span_editor.proofs.partial.certain.Given as goal

abbrev pub invariant-loop-report : goal.invariant-loop-report
invariant-loop-report l = record {
  can : goal.iterator-loop-report.can_next l.report-iterator;
  ends : goal.iterator-loop-report.is_finite l.report-iterator;
  done : map report_content l.kept.items
      ++ certain (map (λ code. code.now) l.codes) l.doubts (map report_content (into_iter_items l.report-iterator))
      ≡ certain (map (λ code. code.now) l.codes) l.doubts (map report_content l.fn.reports.items);
}
