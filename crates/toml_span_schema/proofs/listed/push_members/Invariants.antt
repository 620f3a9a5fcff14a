use Rattle.std.proofs.Common.{◌≡◌, ◌++◌, map}
use Rattle.toml_span_tree.specs.Value.{members_view}
use Rattle.toml_span_schema.specs.Parts.{part_of, entries_of}
use Rattle.toml_span_schema.proofs.listed.push_members.Given as goal

abbrev pub invariant-loop-key : goal.invariant-loop-key
invariant-loop-key l =
    map part_of l.list.items ++ entries_of (members_view l.key-iterator)
    ≡ map part_of l.fn.list.items ++ entries_of (members_view l.table.entries)
