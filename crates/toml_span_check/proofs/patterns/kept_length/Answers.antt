use Rattle.std.proofs.Common.{◌≡◌, ◌+◌, ◌==◌, ◌||◌, not, arith, ap, cond, get_or, refl, sym, ◌∙◌}
use Rattle.toml_span_check.proofs.Trimmed.{trims-end, trims-more, trims-start}
use Rattle.toml_span_check.proofs.patterns.kept_length.Goals.{then-stays, else-stays}
use Rattle.toml_span_check.proofs.patterns.kept_length.Goals as goal

pub loop-index-init : goal.loop-index-init
loop-index-init c = trims-start c.args.line.now

pub loop-index-preserved : goal.loop-index-preserved
loop-index-preserved c =
    let b = get_or c.args.line.now c.loop-index.index 0 in
    let stays = c.loop-index.is_escaped || not (b == 32) in
    let next : c.if-stays.end ≡ cond stays (c.loop-index.index + 1) c.loop-index.end =
    elim c.if-stays.branch [
      | then-stays w ↦ w.end-is ∙ ap (λ t. cond t (c.loop-index.index + 1) c.loop-index.end) (sym w.if-stays.true)
      | else-stays w ↦ w.end-is ∙ ap (λ t. cond t (c.loop-index.index + 1) c.loop-index.end) (sym w.if-stays.false)
    ] in
    trims-more c.args.line.now c.loop-index.index c.loop-index.end b c.if-stays.end c.loop-index.is_escaped _ stays
    (omega arith) refl refl next refl c.loop-index.invariant

pub returns : goal.returns
returns c = record {
  kept = trims-end c.args.line.now c.loop-index.index c.loop-index.end c.loop-index.is_escaped (omega arith) c.loop-index.invariant;
  within = omega (arith, c.loop-index.invariant.before);
  followed_by_space = λ short. c.loop-index.invariant.spaces c.loop-index.end (omega arith) (omega arith);
}
