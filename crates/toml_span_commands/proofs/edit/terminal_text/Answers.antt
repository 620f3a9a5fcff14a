use Rattle.toml_span_lex.proofs.Common.{sym, ◌∙◌, map-id, YieldsList-from_chars, YieldsList-end}
use Rattle.toml_span_commands.specs.Escaped.{escaped}
use Rattle.toml_span_commands.proofs.edit.terminal_text.Goals as goal

pub returns : goal.returns
unfolding escaped
returns c =
    let end = YieldsList-end (YieldsList-from_chars c.args.text.now c.utf8.text cc) c.loop-c.yielded _ c.loop-c.yielded_by _ _ c.in-None.is c.next.ensures.steps in
    rw (sym end.0 ∙ map-id c.loop-c.yielded) c.loop-c.invariant
