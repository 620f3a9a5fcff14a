use Rattle.toml_span_lex.proofs.Common.{inl, inr, refl}
use Rattle.toml_span_lex.specs.Tokens.{lexeme}
use Rattle.toml_span_lex.proofs.MadeStrings.{string_stands}
use Rattle.toml_span_lex.proofs.Standing.{token_stands}
use Rattle.toml_span_lex.proofs.Within.{after_token, after_fault}
use Rattle.toml_span_lex.proofs.tokenizer.Tokenizer.step.Goals as goal

pub invariant_of-self : goal.invariant_of-self
invariant_of-self c =
    let arm = c.in-Ok in
    let text = c.self.inside.input.now in
    let at = c.self.inside.at in
    let stands = string_stands text at arm.end arm.span arm.token arm.ensures.string in
    (arm.ensures.ends, after_token text at arm.end arm.span (lexeme arm.token) c.self.invariant.1 stands)

pub invariant_of-self-in-Err-Fault : goal.invariant_of-self-in-Err-Fault
invariant_of-self-in-Err-Fault c =
    let ends = rw c.in-Err-Fault.field-0-is at c.in-Err-Fault.ensures.ends in
    let gives = rw c.in-Err-Fault.field-0-is at c.in-Err-Fault.ensures.string in
    (ends, after_fault c.self.inside.input.now c.self.inside.at c.in-Err-Fault.next c.in-Err-Fault.error (inr gives))

pub invariant_of-self-in-Err : goal.invariant_of-self-in-Err
invariant_of-self-in-Err c =
    (c.in-Err.ensures.boundary, after_fault c.self.inside.input.now c.self.inside.at c.in-Err.next c.in-Err.error (inl c.in-Err.ensures.finds))

pub returns-in-Ok-token_at-clause-text : goal.returns-in-Ok-token_at-clause-text
returns-in-Ok-token_at-clause-text c = rw (← c.self.view_is) refl

pub returns-in-Ok-token_at-clause-step : goal.returns-in-Ok-token_at-clause-step
returns-in-Ok-token_at-clause-step c =
    let arm = c.in-Ok-token_at in
    rw (← c.self.view_is) (token_stands c.self.inside.input.now c.self.inside.at arm.end (lexeme arm.token) arm.ensures.finds)

pub returns-in-Err-clause-step : goal.returns-in-Err-clause-step
returns-in-Err-clause-step c = rw (← c.self.view_is) (inl c.in-Err.ensures.finds)
