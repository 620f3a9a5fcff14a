use Rattle.toml_span_lex.proofs.Common.{Bool, ◌∙◌, ap, refl}
use Rattle.toml_span_lsp.specs.Shown.{denied_if}
use Rattle.toml_span_lsp.proofs.publish.shown.Goals as goal

pub returns : goal.returns
returns c =
    let all = c.push_schema_fault.new.found.items in
    let denied = c.deny_if.ensures ∙ ap (λ (b : Bool). denied_if b all) c.denies_warnings.ensures in
    (c.in_ok-diagnostics.field-0, c.in_ok-diagnostics.ensures, (refl, (all, c.in_ok-push_schema_fault.ensures, denied)))
