use Rattle.toml_span_lex.proofs.Common.{◌≡◌, drop}
use Rattle.std.specs.Slice.Iter.{iter_rest}
use Rattle.toml_span_tree.specs.Value.{view, items_view}
use Rattle.toml_span_edit.specs.Made.{item_last}
use Rattle.toml_span_edit.proofs.made.item_last.Given as goal

abbrev pub invariant-loop-item : goal.invariant-loop-item
invariant-loop-item l =
    item_last (view l.new) (items_view l.items) (items_view l.others)
    ≡ item_last (view l.new) (items_view (drop l.item-index l.items)) (items_view (iter_rest l.rest))
