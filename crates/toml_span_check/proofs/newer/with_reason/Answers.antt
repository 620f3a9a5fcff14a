use Rattle.toml_span_lex.proofs.Common.{IfOk-weaker, ap, sym, ◌∙◌}
use Rattle.toml_span_report.specs.Report.{report_content}
use Rattle.toml_span_check.specs.Newer.{with_reason}
use Rattle.toml_span_check.proofs.newer.with_reason.Goals as goal

pub returns-then-is_default : goal.returns-then-is_default
returns-then-is_default c =
    IfOk-weaker c.note.result _ _
    (λ made is. is ∙ sym (ap (λ b. with_reason (report_content c.args.report) b) c.if-is_default.true)) c.note.ensures
