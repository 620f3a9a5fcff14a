use Rattle.std.proofs.Common.{◌≡◌, drop}
use Rattle.toml_span_tree.specs.Value.{view}
use Rattle.toml_span_schema.specs.Asserted.{has_dependents}
use Rattle.toml_span_schema.proofs.asserted.has_dependents.Given as goal

abbrev pub invariant-loop-entry : goal.invariant-loop-entry
invariant-loop-entry l =
    has_dependents (view l.value) l.required ≡ has_dependents (view l.value) (drop l.entry-index l.required)
