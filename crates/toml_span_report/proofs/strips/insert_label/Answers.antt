use Rattle.toml_span_lex.proofs.Common.{arith, common_steps}
use Rattle.toml_span_report.specs.Strips.{strips_of}
use Rattle.toml_span_report.proofs.strips.insert_label.Goals as goal

pub returns-then-again-from : goal.returns-then-again-from
unfolding strips_of
returns-then-again-from g c = grind (arith, common_steps)

pub returns : goal.returns
unfolding strips_of
returns g c = grind (arith, common_steps)
