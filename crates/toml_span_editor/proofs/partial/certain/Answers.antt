use Rattle.toml_span_lex.proofs.Common.{◌++◌, ◌∙◌, ap, map, sym}
use Rattle.toml_span_report.specs.Report.{report_content}
use Rattle.toml_span_editor.specs.Partial.{certain}
use Rattle.toml_span_editor.proofs.PartialLemmas.{certain-next}
use Rattle.toml_span_editor.proofs.partial.certain.Goals as goal

pub loop-report-preserved : goal.loop-report-preserved
loop-report-preserved c =
    let sure = map (λ code. code.now) c.args.codes.now in
    let kept = map report_content c.loop-report.kept.items in
    record {
      can = tt;
      ends = tt;
      done = certain-next sure c.args.doubts.now kept (map report_content c.push_certain.new.kept.items) _ _ (report_content c.in-Some.report) c.in_ok-push_certain.ensures
          (ap (λ l. kept ++ certain sure c.args.doubts.now (map report_content l)) (sym c.in-Some.ensures.steps.0) ∙ c.loop-report.invariant.done);
    }
