use Rattle.toml_span_lex.proofs.Common.{◌≡◌, ◌≤◌, suc, drop}
use Rattle.toml_span_tree.specs.Value.{view, items_view, members_view}
use Rattle.toml_span_tree.proofs.Sizes.{node_size, items_size, members_size}
use Rattle.toml_span_edit.specs.Kept.{items_reach, members_reach}
use Rattle.toml_span_edit.proofs.reach.+reach.Given as goal

abbrev pub decreases-reach : goal.decreases-reach
decreases-reach l = node_size (view l.value.now)

abbrev pub decreases-items_reach : goal.decreases-items_reach
decreases-items_reach l = suc (items_size (items_view l.items.now))

abbrev pub decreases-entries_reach : goal.decreases-entries_reach
decreases-entries_reach l = suc (members_size (members_view l.table.now.entries))

abbrev pub invariant-items_reach-loop-item : goal.invariant-items_reach-loop-item
invariant-items_reach-loop-item l = record {
  small : items_size (items_view (drop l.item-index l.items)) ≤ items_size (items_view l.items);
  out : items_reach l.text l.fn.own (items_view l.items)
      ≡ items_reach l.text l.span (items_view (drop l.item-index l.items));
}

abbrev pub invariant-entries_reach-loop-key : goal.invariant-entries_reach-loop-key
invariant-entries_reach-loop-key l = record {
  small : members_size (members_view l.key-iterator) ≤ members_size (members_view l.table.entries);
  out : members_reach l.text l.fn.own (members_view l.table.entries)
      ≡ members_reach l.text l.span (members_view l.key-iterator);
}
