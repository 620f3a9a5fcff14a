use Rattle.toml_span_lex.proofs.Common.{arith, refl, sym, ap, ◌∙◌, nil_from_length, option_copied}
use Rattle.toml_span_read.specs.Earlier.{crossed}
use Rattle.toml_span_read.proofs.EarlierTree.{parts-first, finds-missing, finds-here, finds-below}
use Rattle.toml_span_read.proofs.earlier.+crossing.Goals as goal

pub returns-in_default : goal.returns-in_default
unfolding crossed
returns-in_default t c last = rw (nil_from_length c.args.inner.now (omega arith)) refl

pub returns-in_default-get : goal.returns-in_default-get
returns-in_default-get t c last =
    let front = parts-first c.args.inner.now c.part-item.result _ c.in-len1-up.len_at_least c.part-item.is in
    rw front (finds-missing c.args.node.now _ _ last (sym c.get.ensures.value ∙ ap option_copied c.in_default-get.is))

pub returns-in-Some-value : goal.returns-in-Some-value
returns-in-Some-value t c last =
    let front = parts-first c.args.inner.now c.part-item.result _ c.in-len1-up.len_at_least c.part-item.is in
    rw front (finds-here c.args.node.now _ _ last c.in-Some.child.now c.in-Some-value.first (sym c.get.ensures.value ∙ ap option_copied c.in-Some.is) c.in-Some-value.is)

pub returns-in-None : goal.returns-in-None
returns-in-None t c last =
    let front = parts-first c.args.inner.now c.part-item.result _ c.in-len1-up.len_at_least c.part-item.is in
    rw front (c.crossing.ensures last ∙ finds-below c.args.node.now _ _ last c.in-Some.child.now (sym c.get.ensures.value ∙ ap option_copied c.in-Some.is) c.in-None.is)
