use Rattle.toml_span_lex.proofs.Common.{sym, ◌∙◌, arith, nat_tests, common_steps}
use Rattle.toml_span_c.proofs.Arrays.{laid-none}
use Rattle.toml_span_c.proofs.fill.put_text.Goals as goal

pub returns-in_default-clause-put : goal.returns-in_default-clause-put
returns-in_default-clause-put c m e fits = grind (arith, nat_tests, common_steps, laid-none)

pub returns-then-is_written_at-clause-put : goal.returns-then-is_written_at-clause-put
returns-then-is_written_at-clause-put c m e fits = grind (arith, nat_tests, common_steps, laid-none)

pub returns-clause-put : goal.returns-clause-put
returns-clause-put c m e =
    let other = sym c.is_written_at.ensures ∙ c.if-is_written_at.false in
    rw (c.in-Some.is, other, sym c.as_bytes.ensures.value) (λ fits. c.put_bytes.ensures m e fits)
