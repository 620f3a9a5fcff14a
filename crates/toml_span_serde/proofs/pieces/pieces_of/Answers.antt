use Rattle.toml_span_serde.proofs.OrderedNames.{ordered-pop}
use Rattle.toml_span_serde.proofs.Rows.{carried_out}
use Rattle.toml_span_serde.proofs.pieces.pieces_of.Goals as goal

pub loop-preserved : goal.loop-preserved
loop-preserved c =
    let popped = c.in-Some.ensures.items in (
      carried_out _ _ c.in-Some.task _ _ _ popped c.in_ok-carry_out.ensures.pieces c.loop.invariant.0,
      λ h. c.loop.invariant.1 (ordered-pop _ _ c.in-Some.task popped (c.in_ok-carry_out.ensures.ordered h)),
    )
