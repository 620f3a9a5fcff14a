use Rattle.std.proofs.Common.{sym, ◌∙◌}
use Rattle.toml_span_lex.proofs.Common.{YieldsList-from_chars, YieldsList-end, map-id}
use Rattle.toml_span_schema.specs.Dates.{rfc3339}
use Rattle.toml_span_schema.proofs.DateSteps.{date_step, date_end}
use Rattle.toml_span_schema.proofs.dates.rfc3339.Goals as goal

pub loop-c-preserved : goal.loop-c-preserved
loop-c-preserved c =
    date_step c.loop-c.place _ _ c.in-Some.c c.loop-c.yielded _ c.loop-c.invariant c.in_ok-push_date.ensures
    c.next_place-place.ensures

pub returns : goal.returns
unfolding rfc3339
returns c =
    let end = YieldsList-end (YieldsList-from_chars c.args.text.now c.utf8.text cc) c.loop-c.yielded _ c.loop-c.yielded_by _ _ c.in-None.is c.next.ensures.steps in
    date_end c.loop-c.place _ _ c.loop-c.yielded _ c.loop-c.invariant c.in_ok-push_seconds.ensures
    (sym (map-id c.loop-c.yielded) ∙ end.0)
