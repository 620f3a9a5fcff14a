use Rattle.toml_span_lex.proofs.Common.{◌≡◌, ◌++◌, ◌∷◌, drop}
use Rattle.toml_span_tree.specs.Value.{items_view}
use Rattle.toml_span.specs.Ordered.{AreOrdered}
use Rattle.toml_span_serde.specs.Pieces.{array_begins, items_pieces, piece}
use Rattle.toml_span_serde.specs.TextOrder.{items_in_order}
use Rattle.toml_span_serde.specs.Tasks.{AreTasksOrdered, all_pieces}
use Rattle.toml_span_serde.proofs.pieces.push_elements.Given as goal

abbrev pub invariant-loop-element : goal.invariant-loop-element
invariant-loop-element l =
    (all_pieces l.tasks.items ++ items_pieces (items_in_order (items_view (drop l.element-index l.element-items)))
    ≡ all_pieces l.fn.tasks.items ++ (piece array_begins l.fn.span ∷ items_pieces (items_in_order (items_view l.array.items))))
    × (AreTasksOrdered l.tasks.items → AreOrdered (items_view (drop l.element-index l.element-items))
    → AreTasksOrdered l.fn.tasks.items × AreOrdered (items_view l.array.items))
