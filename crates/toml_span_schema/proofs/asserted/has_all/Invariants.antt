use Rattle.std.proofs.Common.{◌≡◌, drop}
use Rattle.toml_span_tree.specs.Value.{view}
use Rattle.toml_span_schema.specs.Asserted.{has_all}
use Rattle.toml_span_schema.proofs.asserted.has_all.Given as goal

abbrev pub invariant-loop-name : goal.invariant-loop-name
invariant-loop-name l =
    has_all (view l.value) l.names ≡ has_all (view l.value) (drop l.name-index l.names)
