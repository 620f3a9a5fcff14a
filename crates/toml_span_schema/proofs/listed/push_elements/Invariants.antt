use Rattle.std.proofs.Common.{◌≡◌, ◌++◌, drop, map}
use Rattle.toml_span_tree.specs.Value.{items_view}
use Rattle.toml_span_schema.specs.Parts.{part_of, elements_from}
use Rattle.toml_span_schema.proofs.listed.push_elements.Given as goal

abbrev pub invariant-loop-i : goal.invariant-loop-i
invariant-loop-i l =
    map part_of l.list.items ++ elements_from l.i (items_view (drop l.i l.array))
    ≡ map part_of l.fn.list.items ++ elements_from 0 (items_view l.array)
