use Rattle.std.proofs.Common.{ap, ◌∙◌}
use Rattle.std.proofs.lemmas.Iterator.Consumers.{YieldsList-end}
use Rattle.std.proofs.lemmas.Iterator.Splits.{YieldsList-from_lines}
use Rattle.std.specs.List.{filter_map}
use Rattle.std.specs.Str.Iter.{lines_rest}
use Rattle.toml_span_check.specs.Patterns.{line_pattern}
use Rattle.toml_span_check.proofs.PatternLists.{texts-more}
use Rattle.toml_span_check.proofs.patterns.ignore_patterns.Goals as goal

pub returns : goal.returns
returns c =
    let is = ap lines_rest c.into_iter-line-iterator.ensures.into_iter_gives ∙ c.lines-line-items.ensures.rest ∙ c.without_bom.ensures in
    let end = YieldsList-end (YieldsList-from_lines _ is) c.loop-line.yielded _ c.loop-line.yielded_by _ _ c.in-None.is c.next.ensures.steps in
    c.loop-line.invariant ∙ ap (filter_map line_pattern) end.0

pub loop-line-preserved : goal.loop-line-preserved
loop-line-preserved c =
    texts-more line_pattern (λ line. line.now) c.loop-line.yielded c.in-Some.line c.in_ok-line_pattern.field-0 c.loop-line.patterns.items
    _ c.in_ok-line_pattern.ensures c.loop-line.invariant c.in_ok-push_pattern.ensures
