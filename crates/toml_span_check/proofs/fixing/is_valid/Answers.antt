use Rattle.toml_span_lex.proofs.Common.{◌∙◌, ℕ, List, IfOk, subst}
use Rattle.toml_span_check.specs.Fixing.{Judges}
use Rattle.toml_span_check.proofs.fixing.is_valid.Goals as goal

pub returns-in-Ok : goal.returns-in-Ok
returns-in-Ok c =
    subst (λ (t : List ℕ). IfOk c.is_document.result (Judges t)) (c.in-Ok.ensures.cases.0 ∙ c.own_bytes.ensures) c.is_document.ensures
