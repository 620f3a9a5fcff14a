use Rattle.toml_span_lex.proofs.Common.{◌≡◌, ◌≤◌, suc, ◌++◌, drop, map, codes, string_bytes, false}
use Rattle.toml_span_tree.specs.Order.{entry_of}
use Rattle.toml_span_tree.specs.Value.{view, items_view, members_view}
use Rattle.toml_span_check.specs.Order.{items_in_order, members_in_order}
use Rattle.toml_span_check.specs.Shown.{items_shown, members_shown}
use Rattle.toml_span_check.proofs.Entries.{laid}
use Rattle.toml_span_tree.proofs.Sizes.{node_size, items_size, members_size}
use Rattle.toml_span_check.proofs.shown.+push_value.Given as goal

abbrev pub decreases-push_value : goal.decreases-push_value
decreases-push_value l = node_size (view l.value.now)

abbrev pub decreases-push_elements : goal.decreases-push_elements
decreases-push_elements l = suc (items_size (items_view l.elements.now))

abbrev pub decreases-push_entries : goal.decreases-push_entries
decreases-push_entries l = suc (members_size (members_view l.table.now.entries))

abbrev pub invariant-push_elements-loop-element : goal.invariant-push_elements-loop-element
invariant-push_elements-loop-element l = record {
  small : items_size (items_view (drop l.element-index l.elements)) ≤ items_size (items_view l.elements);
  out : string_bytes l.out ++ items_shown l.shape.is_tagged l.later (items_in_order l.shape.is_sorted (items_view (drop l.element-index l.elements)))
      ≡ (string_bytes l.fn.out ++ codes "[") ++ items_shown l.shape.is_tagged false (items_in_order l.shape.is_sorted (items_view l.elements));
}

abbrev pub invariant-push_entries-loop-entry : goal.invariant-push_entries-loop-entry
invariant-push_entries-loop-entry l = record {
  small : members_size (members_view (map entry_of (drop l.entry-index l.entry-items))) ≤ members_size (members_view l.table.entries);
  out : string_bytes l.out ++ members_shown l.shape.is_tagged l.later (laid l.shape.is_sorted (map entry_of (drop l.entry-index l.entry-items)))
      ≡ (string_bytes l.fn.out ++ codes "{") ++ members_shown l.shape.is_tagged false (members_in_order l.shape.is_sorted (members_view l.table.entries));
}
