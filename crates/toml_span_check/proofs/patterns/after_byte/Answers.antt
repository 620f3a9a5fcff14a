use Rattle.std.proofs.Common.{◌∷◌, ◌&&◌, ap₂, arith, false}
use Rattle.toml_span_check.specs.Globs.{fits, set_of}
use Rattle.toml_span_check.specs.Patterns.{after}
use Rattle.toml_span_check.proofs.Marks.{after-more}
use Rattle.toml_span_check.proofs.patterns.after_byte.Goals as goal

pub loop-index-preserved : goal.loop-index-preserved
loop-index-preserved c =
    let test = fits (set_of c.args.set.now) in
    after-more test c.args.marks.now c.args.name.now c.loop-index.index 0 c.loop-index.next.items
    c.push-in-loop-index.new.self.items (false ∷ after test c.args.marks.now c.args.name.now) _ (omega arith)
    (ap₂ (λ a b. a && b) c.is_marked.ensures c.fits.ensures) c.in_ok-push-2.ensures.items c.loop-index.invariant
