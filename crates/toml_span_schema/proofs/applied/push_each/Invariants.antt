use Rattle.std.proofs.Common.{◌≡◌, ◌++◌, drop, map}
use Rattle.toml_span_schema.specs.Applied.{applied_of, each_to}
use Rattle.toml_span_schema.specs.Parts.{part_of}
use Rattle.toml_span_schema.proofs.applied.push_each.Given as goal

abbrev pub invariant-loop-node : goal.invariant-loop-node
invariant-loop-node l =
    map applied_of l.list.items ++ each_to (part_of l.part) (drop l.node-index l.nodes)
    ≡ map applied_of l.fn.list.items ++ each_to (part_of l.part) l.nodes
