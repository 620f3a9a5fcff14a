use Rattle.std.proofs.Common.{◌≡◌}
use Rattle.toml_span_tree.specs.Value.{members_view, view}
use Rattle.toml_span_schema.specs.Parts.{has_key, has_name}
use Rattle.toml_span_schema.proofs.applied.has_key.Given as goal

abbrev pub invariant-loop-key : goal.invariant-loop-key
invariant-loop-key l = has_key (view l.value) l.name ≡ has_name l.name (members_view l.key-iterator)
