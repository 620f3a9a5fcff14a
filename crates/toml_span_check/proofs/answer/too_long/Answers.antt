use Rattle.toml_span_lex.proofs.Common.{◌∙◌, ap, ap₂, []}
use Rattle.toml_span_check.specs.Answer.{reported}
use Rattle.toml_span_check.specs.Formats.{formatted_report}
use Rattle.toml_span_check.proofs.answer.too_long.Goals as goal

pub returns : goal.returns
returns c =
    c.reported.ensures
    ∙ ap₂ (reported c.args.task) c.one.ensures
    (c.in_ok-text.ensures ∙ ap (λ r. formatted_report c.args.format r c.args.name.now []) c.in_ok-report.ensures)
