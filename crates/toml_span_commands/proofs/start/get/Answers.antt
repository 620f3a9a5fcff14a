use Rattle.toml_span_lex.proofs.Common.{inl}
use Rattle.toml_span_commands.proofs.start.get.Goals as goal

pub returns-in-Ok : goal.returns-in-Ok
returns-in-Ok g c = inl (c.in-Ok.options.request, c.in-Ok.options.fixing, c.in-Ok.ensures.fails, c.in-Ok.ensures.ok, c.run_with.ensures)
