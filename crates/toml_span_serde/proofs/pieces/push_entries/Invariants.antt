use Rattle.toml_span_lex.proofs.Common.{◌≡◌, ◌++◌, ◌∷◌, drop, map}
use Rattle.toml_span_tree.specs.Order.{entry_of}
use Rattle.toml_span_tree.specs.Value.{members_view}
use Rattle.toml_span_serde.specs.Pieces.{table_begins, members_pieces, piece}
use Rattle.toml_span_serde.specs.Tasks.{AreTasksOrdered, all_pieces}
use Rattle.toml_span_serde.specs.TextOrder.{members_in_order}
use Rattle.toml_span_serde.proofs.OrderedNames.{AllOrdered}
use Rattle.toml_span_serde.proofs.Entries.{entries_pieces}
use Rattle.toml_span_serde.proofs.pieces.push_entries.Given as goal

abbrev pub invariant-loop-entry : goal.invariant-loop-entry
invariant-loop-entry l =
    (all_pieces l.tasks.items ++ entries_pieces (map entry_of (drop l.entry-index l.entry-items))
    ≡ all_pieces l.fn.tasks.items ++ (piece table_begins l.fn.span ∷ members_pieces (members_in_order (members_view l.table.entries))))
    × (AreTasksOrdered l.tasks.items → AllOrdered (map entry_of (drop l.entry-index l.entry-items))
    → AreTasksOrdered l.fn.tasks.items × AllOrdered l.table.entries)
