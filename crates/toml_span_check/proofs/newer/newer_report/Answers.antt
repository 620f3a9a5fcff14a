use Rattle.toml_span_lex.proofs.Common.{IfOk-weaker, ap, ◌∙◌}
use Rattle.toml_span_check.specs.Newer.{with_older, with_reason}
use Rattle.toml_span_check.proofs.newer.newer_report.Goals as goal

pub returns : goal.returns
returns c =
    let repaired = c.in_ok-repaired.ensures ∙ ap (λ r. with_older r c.args.text.now c.args.form) c.in_ok-report.ensures in
    IfOk-weaker c.with_reason.result _ _ (λ made is. is ∙ ap (λ r. with_reason r c.args.is_default) repaired) c.with_reason.ensures
