use Rattle.toml_span_lex.proofs.Common.{IfOk-weaker}
use Rattle.toml_span_report.specs.Report.{report_content}
use Rattle.toml_span_mistakes.proofs.errors.render_error.Goals as goal

pub returns : goal.returns
returns c =
    IfOk-weaker c.render.result _ _ (λ out h. (report_content c.in_ok-report.report, c.in_ok-report.ensures, h)) c.render.ensures
