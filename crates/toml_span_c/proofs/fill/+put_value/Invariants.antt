-- The measure is the number of parts of the tree that are left; writing what is left completes the result.
use Rattle.toml_span_lex.proofs.Common.{◌≡◌, ◌+◌, ◌-◌, ◌*◌, ◌≤◌, ℕ, suc, drop, length}
use Rattle.toml_span_tree.specs.Value.{view, inner_of, items_view, members_view}
use Rattle.toml_span_tree.proofs.Sizes.{node_size, inner_size, items_size, members_size}
use Rattle.toml_span_c.specs.Records.{items_entries, members_entries}
use Rattle.toml_span_c.specs.code.Filling.{Fits, IsAt}
use Rattle.toml_span_c.proofs.Walks.{Upto, items_left, members_left}
use Rattle.toml_span_c.proofs.fill.+put_value.Given as goal

abbrev pub decreases-put_value : goal.decreases-put_value
decreases-put_value l = 2 * node_size (view l.value.now)

abbrev pub decreases-put_held : goal.decreases-put_held
decreases-put_held l = suc (2 * inner_size (inner_of (view l.value.now)))

abbrev pub decreases-put_elements : goal.decreases-put_elements
decreases-put_elements l = suc (2 * items_size (items_view l.elements.now))

abbrev pub decreases-put_entries : goal.decreases-put_entries
decreases-put_entries l = suc (2 * members_size (members_view l.table.now.entries))

abbrev pub invariant-put_elements-loop-position : goal.invariant-put_elements-loop-position
invariant-put_elements-loop-position l = record {
  small : items_size (items_view (drop l.position l.elements)) ≤ items_size (items_view l.elements);
  so : (k m : ℕ) → IsAt k m l.fn.counts → Fits l.document k m (items_entries k l.parent 0 (items_view l.elements))
      → Upto l.document k m (items_left l.parent l.position (drop l.position l.elements)) (items_entries k l.parent 0 (items_view l.elements)) l.fn.nodes l.nodes l.fn.strings l.strings l.counts;
}

abbrev pub decreases-put_elements-loop-position : goal.decreases-put_elements-loop-position
decreases-put_elements-loop-position l = length l.elements - l.position

abbrev pub invariant-put_entries-loop-key : goal.invariant-put_entries-loop-key
invariant-put_entries-loop-key l = record {
  place : l.position + length l.key-iterator ≡ length l.table.entries;
  small : members_size (members_view l.key-iterator) ≤ members_size (members_view l.table.entries);
  so : (k m : ℕ) → IsAt k m l.fn.counts → Fits l.document k m (members_entries k l.parent 0 (members_view l.table.entries))
      → Upto l.document k m (members_left l.parent l.position l.key-iterator) (members_entries k l.parent 0 (members_view l.table.entries)) l.fn.nodes l.nodes l.fn.strings l.strings l.counts;
}
