use Rattle.toml_span_lex.proofs.Common.{◌≡◌, map, take}
use Rattle.toml_span_read.specs.Data.{parsed_assignment}
use Rattle.toml_span_format.proofs.permuted.sorted.Given as goal

abbrev pub invariant-loop-assignment : goal.invariant-loop-assignment
invariant-loop-assignment l = map (λ n. parsed_assignment n.assignment.now) l.found.items ≡ map parsed_assignment (take l.assignment-index l.assignments)
