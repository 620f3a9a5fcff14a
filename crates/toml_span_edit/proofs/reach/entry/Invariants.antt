use Rattle.toml_span_lex.proofs.Common.{◌≡◌}
use Rattle.toml_span_tree.specs.Node.{entry_at}
use Rattle.toml_span_tree.specs.Value.{members_view}
use Rattle.toml_span_edit.proofs.reach.entry.Given as goal

abbrev pub invariant-loop-key : goal.invariant-loop-key
invariant-loop-key l = entry_at l.name (members_view l.table.entries) ≡ entry_at l.name (members_view l.key-iterator)
