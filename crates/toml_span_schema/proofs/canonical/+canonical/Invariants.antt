use Rattle.std.proofs.Common.{◌≡◌, ◌+◌, ◌*◌, ◌++◌, drop, string_bytes}
use Rattle.toml_span_tree.specs.Value.{items_view, members_view}
use Rattle.toml_span_schema.specs.Canonical.{items_form, members_form}
use Rattle.toml_span_schema.proofs.canonical.+canonical.Given as goal

abbrev pub decreases-push_canonical : goal.decreases-push_canonical
decreases-push_canonical l = 2 * l.depth

abbrev pub decreases-push_items : goal.decreases-push_items
decreases-push_items l = 2 * l.depth + 1

abbrev pub decreases-push_entries : goal.decreases-push_entries
decreases-push_entries l = 2 * l.depth + 1

abbrev pub invariant-push_items-loop-value : goal.invariant-push_items-loop-value
invariant-push_items-loop-value l =
    string_bytes l.out ++ items_form (items_view (drop l.value-index l.values))
    ≡ string_bytes l.fn.out ++ items_form (items_view l.values)

abbrev pub invariant-push_entries-loop-key : goal.invariant-push_entries-loop-key
invariant-push_entries-loop-key l =
    string_bytes l.out ++ members_form (members_view l.key-iterator)
    ≡ string_bytes l.fn.out ++ members_form (members_view l.table.entries)
