use Rattle.toml_span_lex.proofs.Common.{◌≡◌, ◌++◌, map}
use Rattle.toml_span_tree.specs.Order.{entry_of}
use Rattle.toml_span_check.proofs.shown.listed.Given as goal

abbrev pub invariant-loop-key : goal.invariant-loop-key
invariant-loop-key l = map entry_of l.entries.items ++ l.key-iterator ≡ l.table.entries
