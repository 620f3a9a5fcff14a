use Rattle.toml_span_lex.proofs.Common.{arith, common_steps, on_ok_weaker}
use Rattle.toml_span_report.specs.Visible.{unicode_escape}
use Rattle.toml_span_report.proofs.visible.push_code.Goals as goal

pub returns : goal.returns
unfolding unicode_escape
returns c = on_ok_weaker c.push_digit-4.result (λ last. grind (arith, common_steps)) c.push_digit-4.ensures
