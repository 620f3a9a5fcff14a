use Rattle.toml_span_lex.proofs.Common.{◌≡◌, ◌++◌, drop, map}
use Rattle.toml_span_read.specs.Data.{parsed_assignment}
use Rattle.toml_span_places.specs.Newer.{assignments_forms}
use Rattle.toml_span_places.proofs.newer.push_assignments.Given as goal

abbrev pub invariant-loop-assignment : goal.invariant-loop-assignment
invariant-loop-assignment l =
    l.out.items ++ assignments_forms l.text (map parsed_assignment (drop l.assignment-index l.assignments))
    ≡ l.fn.out.items ++ assignments_forms l.text (map parsed_assignment l.assignments)
