use Rattle.toml_span_lex.proofs.Common.{arith, nat_tests, common_steps}
use Rattle.toml_span_report.specs.Strips.{strip_content}
use Rattle.toml_span_report.proofs.StripLemmas.{earlier_within, placed_is}
use Rattle.toml_span_report.proofs.strips.insert_strip.Goals as goal

pub insert-requires : goal.insert-requires
insert-requires c = grind (arith, nat_tests, common_steps, earlier_within)

pub returns : goal.returns
returns c = grind (arith, nat_tests, common_steps, placed_is strip_content)
