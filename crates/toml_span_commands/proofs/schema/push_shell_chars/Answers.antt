use Rattle.toml_span_lex.proofs.Common.{sym, ◌∙◌, map-id, YieldsList-from_chars, YieldsList-end}
use Rattle.toml_span_commands.specs.Shell.{shell_chars}
use Rattle.toml_span_commands.proofs.schema.push_shell_chars.Goals as goal

pub returns : goal.returns
unfolding shell_chars
returns c =
    let end = YieldsList-end (YieldsList-from_chars c.args.word.now c.utf8.word cc) c.loop-c.yielded _ c.loop-c.yielded_by _ _ c.in-None.is c.next.ensures.steps in
    rw (sym end.0 ∙ map-id c.loop-c.yielded) c.loop-c.invariant
