use Rattle.toml_span_lex.proofs.Common.{◌≡◌, ◌≤◌, ℕ, List, suc, ◌++◌, drop, false, length}
use Rattle.toml_span_tree.specs.Value.{view, items_view, members_view}
use Rattle.toml_span_lines.specs.Held.{HoldsRest}
use Rattle.toml_span_lines.specs.Lines.{items_lines, members_lines}
use Rattle.toml_span_tree.proofs.Sizes.{node_size, items_size, members_size}
use Rattle.toml_span_lines.proofs.lines.+write_value.Given as goal

abbrev pub decreases-write_value : goal.decreases-write_value
decreases-write_value g l = node_size (view l.value.now)

abbrev pub decreases-write_elements : goal.decreases-write_elements
decreases-write_elements g l = suc (items_size (items_view l.elements.now))

abbrev pub decreases-write_entries : goal.decreases-write_entries
decreases-write_entries g l = suc (members_size (members_view l.table.now.entries))

abbrev pub invariant-write_elements-loop-position : goal.invariant-write_elements-loop-position
invariant-write_elements-loop-position g l = record {
  good : g.W.Sink.failed l.writer ≡ false;
  path : l.path.items ≡ l.fn.path.items;
  length : l.length ≡ length l.fn.path.items;
  small : items_size (items_view (drop l.position l.elements)) ≤ items_size (items_view l.elements);
  out : (done : List ℕ) × HoldsRest (g.W.Sink.contents l.fn.writer) (g.W.Sink.contents l.writer) done l.held.items
      × (done ++ items_lines l.fn.path.items l.position (items_view (drop l.position l.elements))
      ≡ l.fn.held.items ++ items_lines l.fn.path.items 0 (items_view l.elements));
}

abbrev pub invariant-write_entries-loop-key : goal.invariant-write_entries-loop-key
invariant-write_entries-loop-key g l = record {
  good : g.W.Sink.failed l.writer ≡ false;
  path : l.path.items ≡ l.fn.path.items;
  length : l.length ≡ length l.fn.path.items;
  small : members_size (members_view l.key-iterator) ≤ members_size (members_view l.table.entries);
  out : (done : List ℕ) × HoldsRest (g.W.Sink.contents l.fn.writer) (g.W.Sink.contents l.writer) done l.held.items
      × (done ++ members_lines l.fn.path.items (members_view l.key-iterator)
      ≡ l.fn.held.items ++ members_lines l.fn.path.items (members_view l.table.entries));
}
