use Rattle.toml_span_lex.proofs.Common.{arith}
use Rattle.toml_span_read.specs.Data.{ParsedAssignment, parsed_assignment}
use Rattle.toml_span_format.specs.declared.permuted.Named.{Named}
use Rattle.toml_span_format.proofs.Permutations.{gathered}
use Rattle.toml_span_format.proofs.permuted.sorted.Goals as goal

pub returns : goal.returns
returns c =
    let f : Named → ParsedAssignment = λ n. parsed_assignment n.assignment.now in
    gathered f parsed_assignment c.args.assignments.now c.loop-assignment.assignment-index c.loop-assignment.found.items c.sort.new.self.items
    (omega (arith, c.loop-assignment-test.false)) c.loop-assignment.invariant c.sort.ensures.permutation
