use Rattle.toml_span_lex.proofs.Common.{ap, subst, ◌∙◌, IfOk-weaker}
use Rattle.toml_span_mistakes.specs.Errors.{ReportsError}
use Rattle.toml_span_report.specs.Rendering.{report_text}
use Rattle.toml_span_report.specs.Report.{report_content}
use Rattle.toml_span_report.specs.declared.report.Severity.TheVariants as severities
use Rattle.toml_span_serde.specs.Shown.{with_meant}
use Rattle.toml_span_serde.proofs.shown.render_misfit.Goals as goal

pub returns : goal.returns
returns c =
    let report = report_content c.in_ok-report.report in
    let told = subst (λ error. ReportsError severities.Error c.args.text.now error report) c.in_ok-error.ensures c.in_ok-report.ensures in
    let meant = c.in_ok-report-2.ensures ∙ ap (λ name. with_meant name report) c.in_ok-meant.ensures in
    IfOk-weaker c.render.result _ _ (λ out h. (report, told, h ∙ ap (λ r. report_text c.args.style r c.args.name.now c.args.text.now) meant)) c.render.ensures
