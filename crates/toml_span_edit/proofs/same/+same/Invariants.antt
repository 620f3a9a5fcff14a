use Rattle.toml_span_lex.proofs.Common.{◌≡◌, ◌≤◌, suc, drop}
use Rattle.std.specs.Slice.Iter.{iter_rest}
use Rattle.toml_span_tree.specs.Value.{view, items_view, members_view}
use Rattle.toml_span_tree.proofs.Sizes.{node_size, items_size, members_size}
use Rattle.toml_span_edit.specs.Same.{same_items, same_members}
use Rattle.toml_span_edit.proofs.same.+same.Given as goal

abbrev pub decreases-same_tree : goal.decreases-same_tree
decreases-same_tree l = node_size (view l.tree.now)

abbrev pub decreases-same_items : goal.decreases-same_items
decreases-same_items l = suc (items_size (items_view l.items.now))

abbrev pub decreases-same_entries : goal.decreases-same_entries
decreases-same_entries l = suc (members_size (members_view l.table.now.entries))

abbrev pub invariant-same_items-loop-item : goal.invariant-same_items-loop-item
invariant-same_items-loop-item l = record {
  small : items_size (items_view (drop l.item-index l.items)) ≤ items_size (items_view l.items);
  out : same_items (items_view l.items) (items_view l.others)
      ≡ same_items (items_view (drop l.item-index l.items)) (items_view (iter_rest l.rest));
}

abbrev pub invariant-same_entries-loop-key : goal.invariant-same_entries-loop-key
invariant-same_entries-loop-key l = record {
  small : members_size (members_view l.key-iterator) ≤ members_size (members_view l.table.entries);
  out : same_members (members_view l.table.entries) (members_view l.others.entries)
      ≡ same_members (members_view l.key-iterator) (members_view l.rest);
}
