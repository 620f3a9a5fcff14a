use Rattle.toml_span_lex.proofs.Common.{inl}
use Rattle.toml_span_check.proofs.fixing.is_document.Goals as goal

pub returns-in-Err-Fault : goal.returns-in-Err-Fault
returns-in-Err-Fault c =
    let refusal = rw c.in-Err-Fault.field-0-is at c.in-Err-Fault.ensures.answers in
    inl (c.in-Err-Fault.error, refusal)
