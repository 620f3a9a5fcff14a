use Rattle.toml_span_lex.proofs.Common.{refl, sym}
use Rattle.toml_span_read.specs.code.Earlier.{holds}
use Rattle.toml_span_read.proofs.EarlierKnows.{tells_init, tells_next}
use Rattle.toml_span_read.proofs.earlier.Earlier.catch_up.Goals as goal

pub loop-at-init : goal.loop-at-init
loop-at-init c = (refl, tells_init c.args.self.now c.args.values.now c.requires)

pub loop-at-preserved : goal.loop-at-preserved
loop-at-preserved c = (
  c.loop-at.invariant.0,
  tells_next c.args.values.now c.loop-at.at c.index-values-at.result _ c.deref.result.now c.key_of-parts.result.now.last (holds c.loop-at.self.tree) (holds c.put.new.node)
      c.loop-at-test.true c.index-values-at.is (sym c.deref.ensures.value) c.key_of-parts.ensures c.loop-at.invariant.1 c.in_ok-put.ensures,
)
