use Rattle.toml_span_lex.proofs.Common.{◌≤◌, suc, drop}
use Rattle.toml_span_tree.specs.Value.{view, items_view, members_view}
use Rattle.toml_span_tree.proofs.Sizes.{node_size, items_size, members_size}
use Rattle.toml_span_editor.proofs.outline.+symbols_in.Given as goal

abbrev pub decreases-symbols_in : goal.decreases-symbols_in
decreases-symbols_in l = node_size (view l.value.now)

abbrev pub decreases-element_symbols : goal.decreases-element_symbols
decreases-element_symbols l = suc (items_size (items_view l.elements.now))

abbrev pub decreases-entry_symbols : goal.decreases-entry_symbols
decreases-entry_symbols l = suc (members_size (members_view l.table.now.entries))

abbrev pub invariant-element_symbols-loop-element : goal.invariant-element_symbols-loop-element
invariant-element_symbols-loop-element l =
    items_size (items_view (drop l.element-index l.elements)) ≤ items_size (items_view l.elements)

abbrev pub invariant-entry_symbols-loop-key : goal.invariant-entry_symbols-loop-key
invariant-entry_symbols-loop-key l =
    members_size (members_view l.key-iterator) ≤ members_size (members_view l.table.entries)
