use Rattle.toml_span_lex.proofs.Common.{◌≡◌, ◌≤◌, suc, ◌++◌, drop, map}
use Rattle.toml_span_tree.specs.Value.{view, items_view, members_view}
use Rattle.toml_span_tree.proofs.Sizes.{node_size, items_size, members_size}
use Rattle.toml_span_tree.specs.Nodes.{items_nodes, members_nodes, seen, step_of}
use Rattle.toml_span_tree.proofs.nodes.+push_node.Given as goal

abbrev pub decreases-push_node : goal.decreases-push_node
decreases-push_node l = node_size (view l.value.now)

abbrev pub decreases-push_elements : goal.decreases-push_elements
decreases-push_elements l = suc (items_size (items_view l.elements.now))

abbrev pub decreases-push_entries : goal.decreases-push_entries
decreases-push_entries l = suc (members_size (members_view l.table.now.entries))

abbrev pub invariant-push_elements-loop-position : goal.invariant-push_elements-loop-position
invariant-push_elements-loop-position l = record {
  small : items_size (items_view (drop l.position l.elements)) ≤ items_size (items_view l.elements);
  out : map seen l.list.items ++ items_nodes (map step_of l.path) l.position (items_view (drop l.position l.elements))
      ≡ map seen l.fn.list.items ++ items_nodes (map step_of l.path) 0 (items_view l.elements);
}

abbrev pub invariant-push_entries-loop-key : goal.invariant-push_entries-loop-key
invariant-push_entries-loop-key l = record {
  small : members_size (members_view l.key-iterator) ≤ members_size (members_view l.table.entries);
  out : map seen l.list.items ++ members_nodes (map step_of l.path) (members_view l.key-iterator)
      ≡ map seen l.fn.list.items ++ members_nodes (map step_of l.path) (members_view l.table.entries);
}
