use Rattle.toml_span_lex.proofs.Common.{arith, inr, length}
use Rattle.toml_span.specs.code.Machine.{named_clash}
use Rattle.toml_span.proofs.PlaceLemmas.{clash_inside}
use Rattle.toml_span.proofs.Refusals.{answers-tree, first-of-error}
use Rattle.toml_span.proofs.de.tree_of.Goals as goal

pub line_info-place-requires : goal.line_info-place-requires
line_info-place-requires c =
    let n = length c.args.text.now in
    let inside = clash_inside n _ _ c.in-Err-Fault.field-0-is (c.in-Err-Fault.ensures.placed n c.requires.inside) in
    rw c.into_inner-clash.ensures (omega (arith, inside.0, inside.1))

pub returns-in-Ok-clause-answers : goal.returns-in-Ok-clause-answers
returns-in-Ok-clause-answers c = λ bs limit given assembles. answers-tree c.args.text.now limit bs _ given (c.in-Ok.ensures.assembles bs assembles)

pub returns-in-Err-Fault-clause-answers : goal.returns-in-Err-Fault-clause-answers
returns-in-Err-Fault-clause-answers c = λ bs limit given assembles.
    let n = length c.args.text.now in
    let inside = clash_inside n _ _ c.in-Err-Fault.field-0-is (c.in-Err-Fault.ensures.placed n c.requires.inside) in inr (
      bs,
      named_clash c.in-Err-Fault.clash,
      (given, first-of-error _ n _ _ c.in-Err-Fault.field-0-is (c.in-Err-Fault.ensures.assembles bs assembles)),
      (record { within = omega (arith, inside.0, inside.1); forward = inside.0 }, grind (arith, c.into_inner-clash.ensures, c.into_error.ensures, c.line_info-place.ensures)),
    )

pub returns-in-Ok-clause-borrows : goal.returns-in-Ok-clause-borrows
returns-in-Ok-clause-borrows c = c.in-Ok.ensures.borrows c.args.text.now
