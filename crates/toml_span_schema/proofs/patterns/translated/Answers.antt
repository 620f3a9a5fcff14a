use Rattle.std.proofs.Common.{sym, ◌∙◌}
use Rattle.toml_span_lex.proofs.Common.{YieldsList-from_chars, YieldsList-end, map-id}
use Rattle.toml_span_schema.proofs.Expressions.{pattern_step, pattern_end}
use Rattle.toml_span_schema.proofs.patterns.translated.Goals as goal

pub loop-c-preserved : goal.loop-c-preserved
loop-c-preserved c =
    pattern_step c.loop-c.state c.loop-c.in_class _ _ c.in-Some.c c.loop-c.yielded _ _ c.loop-c.invariant
    c.in_ok-push_character.ensures c.next_state-state.ensures c.in_class_after-in_class.ensures

pub returns : goal.returns
returns c =
    let end = YieldsList-end (YieldsList-from_chars c.args.pattern.now c.utf8.pattern cc) c.loop-c.yielded _ c.loop-c.yielded_by _ _ c.in-None.is c.next.ensures.steps in
    pattern_end c.loop-c.state c.loop-c.in_class _ _ c.loop-c.yielded _ c.loop-c.invariant c.in_ok-push_end.ensures
    (sym (map-id c.loop-c.yielded) ∙ end.0)
