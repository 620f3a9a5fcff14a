use Rattle.std.proofs.Common.{◌∙◌, arith, ap, map, take, sym}
use Rattle.std.proofs.lemmas.List.{take_more}
use Rattle.std.specs.List.{filter_map}
use Rattle.toml_span_check.specs.Patterns.{pattern_of}
use Rattle.toml_span_check.proofs.PatternLists.{texts-more}
use Rattle.toml_span_check.proofs.folder.patterns_of.Goals as goal

pub loop-text-preserved : goal.loop-text-preserved
loop-text-preserved c =
    let texts = c.args.texts.now in
    let i = c.loop-text.text-index in
    texts-more pattern_of (λ text. text.now) (take i texts) _ c.in_ok-pattern_of.field-0 c.loop-text.patterns.items _
    c.in_ok-pattern_of.ensures c.loop-text.invariant c.in_ok-push_pattern.ensures
    ∙ ap (λ l. filter_map pattern_of (map (λ text. text.now) l)) (sym (take_more texts i _ (omega arith)))
