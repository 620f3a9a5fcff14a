use Rattle.toml_span_lex.proofs.Common.{arith, nat_tests, common_steps}
use Rattle.toml_span_tree.proofs.Values.{inner_view-Array, inner_view-Table}
use Rattle.toml_span_c.proofs.Held.{count-elements, count-entries}
use Rattle.toml_span_c.proofs.records.children_of.Goals as goal

pub returns-in-Array : goal.returns-in-Array
returns-in-Array c = grind (arith, nat_tests, common_steps, inner_view-Array, count-elements)

pub returns-in-Table : goal.returns-in-Table
returns-in-Table c = grind (arith, nat_tests, common_steps, inner_view-Table, count-entries)
