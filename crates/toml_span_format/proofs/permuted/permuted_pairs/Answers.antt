use Rattle.toml_span_lex.proofs.Common.{map}
use Rattle.toml_span_read.specs.Data.{ParsedAssignment, parsed_assignment}
use Rattle.toml_span_format.specs.Same.{bare_assignment}
use Rattle.toml_span_format.specs.declared.permuted.Named.{Named}
use Rattle.toml_span_format.proofs.Permutations.{permuted}
use Rattle.toml_span_format.proofs.permuted.permuted_pairs.Goals as goal

pub returns : goal.returns
returns c =
    let f : Named → ParsedAssignment = λ n. parsed_assignment n.assignment.now in
    λ t. permuted f bare_assignment (map parsed_assignment c.args.a.now) (map parsed_assignment c.args.b.now) c.as_slice.result.now c.as_slice-2.result.now
    (rw c.as_slice.ensures.value c.in_ok-before.ensures) (rw c.as_slice-2.ensures.value c.in_ok-after.ensures) (c.same_named.ensures.0 t)
