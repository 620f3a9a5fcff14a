use Rattle.toml_span_lex.proofs.Common.{◌≡◌, drop}
use Rattle.toml_span_tree.specs.Value.{items_view, members_view, all_whole, all_members_whole}
use Rattle.toml_span_tree.proofs.value.+whole.Given as goal

abbrev pub invariant-all_entries_whole-loop-key : goal.invariant-all_entries_whole-loop-key
invariant-all_entries_whole-loop-key l = all_members_whole (members_view l.table.entries) ≡ all_members_whole (members_view l._key-iterator)

abbrev pub invariant-all_whole-loop-value : goal.invariant-all_whole-loop-value
invariant-all_whole-loop-value l = all_whole (items_view l.values) ≡ all_whole (items_view (drop l.value-index l.values))
