use Rattle.std.proofs.Common.{◌≡◌, ◌++◌, drop, map}
use Rattle.toml_span_schema.specs.Applied.{applied_of, inside}
use Rattle.toml_span_schema.specs.Parts.{part_of}
use Rattle.toml_span_schema.proofs.applied.push_inside.Given as goal

abbrev pub invariant-loop-part : goal.invariant-loop-part
invariant-loop-part l =
    map applied_of l.list.items ++ inside l.schema l.keyword (map part_of (drop l.part-index l.parts))
    ≡ map applied_of l.fn.list.items ++ inside l.schema l.keyword (map part_of l.parts)
