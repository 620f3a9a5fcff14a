use Rattle.toml_span_lex.proofs.Common.{◌≡◌, IsTrue, ◌++◌, map, into_iter_items}
use Rattle.toml_span_tree.specs.Error.{content_of}
use Rattle.toml_span_tree.specs.Value.{all_whole, items_view}
use Rattle.toml_span_typed.specs.Reads.{nodes_of}
use Rattle.toml_span_typed.specs.code.WithWarnings.{AreReadWithWarnings}
use Rattle.toml_span_typed.specs.WithWarnings.{Extends}
use Rattle.toml_span_typed.proofs.with_warnings.lists.read_all.Given as goal

abbrev pub invariant-loop-item : goal.invariant-loop-item
invariant-loop-item g l = record {
  can : (goal.iterator-loop-item g).can_next l.item-iterator;
  ends : (goal.iterator-loop-item g).is_finite l.item-iterator;
  rest : l.yielded ++ into_iter_items l.item-iterator ≡ l.fn.items.items;
  whole : IsTrue (all_whole (items_view (into_iter_items l.item-iterator)));
  done : AreReadWithWarnings g.T.DeserializeWithWarnings.reads (nodes_of (items_view l.yielded)) l.read.items (map content_of l.faults.items)
      (map content_of l.initial.warnings.items) (map content_of l.warnings.items);
  kept : Extends (map content_of l.initial.warnings.items) (map content_of l.warnings.items);
}
