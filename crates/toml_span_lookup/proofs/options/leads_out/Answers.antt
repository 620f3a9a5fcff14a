use Rattle.std.proofs.Common.{ap, codes, ◌∙◌, arith}
use Rattle.std.specs.List.{list_any}
use Rattle.std.specs.Str.{bytes_eq}
use Rattle.std.proofs.lemmas.Iterator.Consumers.{YieldsList-end}
use Rattle.std.proofs.lemmas.Iterator.Splits.{YieldsList-from_str_split}
use Rattle.std.specs.Str.Iter.{split_has_more, split_pattern, split_text}
use Rattle.toml_span_lookup.proofs.options.leads_out.Goals as goal

pub returns : goal.returns
returns c =
    let s = c.split-part-items.ensures in
    let is = c.into_iter-part-iterator.ensures.into_iter_gives in
    let yields = YieldsList-from_str_split 47 c.args.path.now (omega arith) (ap split_text is ∙ s.text) (ap split_has_more is ∙ s.has_more) (ap split_pattern is ∙ s.pattern) in
    let end = YieldsList-end yields c.loop-part.yielded _ c.loop-part.yielded_by _ _ c.in-None.is c.next.ensures.steps in
    c.loop-part.invariant ∙ ap (list_any (λ part. bytes_eq part (codes ".."))) end.0
