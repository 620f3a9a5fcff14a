use Rattle.toml_span_lex.proofs.Common.{◌≡◌, ◌∙◌, option_map, subst, sym, IfOk}
use Rattle.toml_span_report.specs.Report.{report_content, with_help}
use Rattle.toml_span_serde.specs.Shown.{with_meant}
use Rattle.toml_span_serde.proofs.shown.helped.Goals as goal

pub returns-in_ok-help-in-Some : goal.returns-in_ok-help-in-Some
returns-in_ok-help-in-Some c =
    let text = c.as_str.ensures.value ∙ c.in_ok-help-in-Some.ensures.ok in
    let told = subst (λ help. IfOk c.help.result (λ made. report_content made ≡ with_help (report_content c.args.report) help)) text c.help.ensures in
    subst (λ meant. IfOk c.help.result (λ made. report_content made ≡ with_meant (option_map (λ name. name.now) meant) (report_content c.args.report))) (sym c.in-Some.is) told
