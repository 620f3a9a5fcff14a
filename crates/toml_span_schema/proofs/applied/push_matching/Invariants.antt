use Rattle.std.proofs.Common.{◌≡◌, ◌++◌, drop}
use Rattle.toml_span_schema.specs.Applied.{matching_for}
use Rattle.toml_span_schema.proofs.applied.push_matching.Given as goal

abbrev pub invariant-loop-property : goal.invariant-loop-property
invariant-loop-property l =
    l.list.items ++ matching_for l.schema (drop l.property-index l.matching) l.name
    ≡ l.fn.list.items ++ matching_for l.schema l.matching l.name
