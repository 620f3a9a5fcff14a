use Rattle.std.proofs.Common.{◌≡◌, ◌++◌, map}
use Rattle.toml_span_tree.specs.Value.{members_view, view}
use Rattle.toml_span_schema.specs.Parts.{name_values, names_of}
use Rattle.toml_span_schema.proofs.applied.names.Given as goal

abbrev pub invariant-loop-key : goal.invariant-loop-key
invariant-loop-key l =
    map view l.list.items ++ name_values (members_view l.key-iterator) ≡ names_of (view l.value)
