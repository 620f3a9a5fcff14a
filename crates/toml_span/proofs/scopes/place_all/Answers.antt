use Rattle.toml_span_lex.proofs.Common.{◌∙◌, refl}
use Rattle.toml_span_read.specs.Borrowed.{assignment_written}
use Rattle.toml_span.proofs.Placed.{err-of}
use Rattle.toml_span.proofs.Borrowing.{first_right}
use Rattle.toml_span.proofs.Assignments.{remains-first, placing-more, placing-err, placing-none}
use Rattle.toml_span.proofs.scopes.place_all.Goals as goal

pub loop-pair-init : goal.loop-pair-init
loop-pair-init c =
    let all = c.into_iter-pair-iterator.ensures.into_iter_gives ∙ c.new-pair-items.ensures in
    record {
      borrows = λ text h before. (rw all h, before, refl);
      placing = remains-first _ _ _ all;
    }

pub loop-pair-preserved : goal.loop-pair-preserved
loop-pair-preserved c = record {
  borrows = λ text h node.
      let before = c.loop-pair.invariant.borrows text h node in
      let first = first_right text assignment_written _ _ c.in-Some.pair c.in-Some.ensures.steps before.0 in
      let kept = c.in_ok-place_one.ensures.borrows text first.0 before.1 in
      (first.1, kept.0, kept.1 ∙ before.2);
  placing = placing-more c.loop-pair.node c.place_one.new.node _ _ _ _ c.in-Some.pair c.in-Some.ensures.steps c.loop-pair.invariant.placing c.in_ok-place_one.ensures.places;
}

pub returns-in_err-place_one-clause-places : goal.returns-in_err-place_one-clause-places
returns-in_err-place_one-clause-places c =
    let q = c.from_residual.result in
    let e = c.in_err-place_one.field-0.0 in
    placing-err c.loop-pair.node c.place_one.new.node c.args.node.now c.place_one.new.node _ _ _ c.in-Some.pair q e c.in-Some.ensures.steps c.loop-pair.invariant.placing
    (err-of q e _ c.from_residual.ensures.1 (λ y p. p)) c.in_err-place_one.ensures.places

pub returns-clause-places : goal.returns-clause-places
returns-clause-places c = placing-none c.loop-pair.node _ _ _ c.in-None.ensures.steps.0 c.loop-pair.invariant.placing

pub returns-clause-borrows : goal.returns-clause-borrows
returns-clause-borrows c = λ text h node. let kept = c.loop-pair.invariant.borrows text h node in (kept.1, kept.2)
