use Rattle.toml_span_lex.proofs.Common.{ℕ, IfOk-weaker, inl}
use Rattle.toml_span_commands.proofs.check.check.Goals as goal

pub returns-in-Ok : goal.returns-in-Ok
returns-in-Ok g c =
    IfOk-weaker _ _ _ (λ (status : ℕ) checks. inl (c.in-Ok.options.request, c.in-Ok.options.fixing, c.in-Ok.ensures.fails, c.in-Ok.ensures.ok, checks)) c.check_with.ensures
