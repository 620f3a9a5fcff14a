use Rattle.toml_span_lex.proofs.Common.{◌≡◌, ◌++◌}
use Rattle.toml_span_tree.specs.Value.{view}
use Rattle.toml_span.specs.Ordered.{IsOrdered}
use Rattle.toml_span_serde.specs.Pieces.{pieces}
use Rattle.toml_span_serde.specs.TextOrder.{in_text_order}
use Rattle.toml_span_serde.specs.Tasks.{AreTasksOrdered, all_pieces, turned}
use Rattle.toml_span_serde.proofs.pieces.pieces_of.Given as goal

abbrev pub invariant-loop : goal.invariant-loop
invariant-loop l =
    (all_pieces l.tasks.items ++ turned l.turned.items ≡ pieces (in_text_order (view l.fn.root)))
    × (AreTasksOrdered l.tasks.items → IsOrdered (view l.fn.root))
