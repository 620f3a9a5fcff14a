use Rattle.std.proofs.Common.{◌≡◌, ◌++◌, drop}
use Rattle.toml_span_tree.specs.Value.{view}
use Rattle.toml_span_schema.specs.Applied.{dependents}
use Rattle.toml_span_schema.proofs.applied.dependents.Given as goal

abbrev pub invariant-loop-entry : goal.invariant-loop-entry
invariant-loop-entry l =
    l.nodes.items ++ dependents (view l.value) (drop l.entry-index l.entries) ≡ dependents (view l.value) l.entries
