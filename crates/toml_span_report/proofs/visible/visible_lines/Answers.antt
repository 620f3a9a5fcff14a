use Rattle.toml_span_lex.proofs.Common.{sym, ◌∙◌, map-id, YieldsList-from_chars, YieldsList-end}
use Rattle.toml_span_report.specs.Visible.{visible_lines}
use Rattle.toml_span_report.proofs.visible.visible_lines.Goals as goal

pub returns : goal.returns
unfolding visible_lines
returns c =
    let end = YieldsList-end (YieldsList-from_chars c.args.text.now c.utf8.text cc) c.loop-c.yielded _ c.loop-c.yielded_by _ _ c.in-None.is c.next.ensures.steps in
    rw (sym end.0 ∙ map-id c.loop-c.yielded) c.loop-c.invariant
