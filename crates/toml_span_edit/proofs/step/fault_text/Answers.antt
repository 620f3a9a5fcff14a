use Rattle.toml_span_lex.proofs.Common.{◌≡◌, ◌∙◌, ◌++◌, ℕ, List, ap, string_bytes}
use Rattle.std.specs.Prelude.{codes, unwrap_or}
use Rattle.std.specs.Fmt.{decimal}
use Rattle.toml_span_tree.specs.Error.{kind_of}
use Rattle.toml_span_tree.specs.Message.{display_text}
use Rattle.toml_span_edit.specs.Reasons.{next}
use Rattle.toml_span_edit.proofs.Steps.{if_ok}
use Rattle.toml_span_edit.proofs.step.fault_text.Goals as goal

placed : ℕ → ℕ → List ℕ → List ℕ
placed line column message = decimal line ++ (codes ":" ++ (decimal column ++ (codes ": " ++ message)))

pub returns : goal.returns
unfolding placed
returns c =
    let fault = c.args.fault.now in
    let message = display_text (kind_of fault.kind) in
    let at = unwrap_or fault.line_info (0, 0) in
    let line : c.saturating_add-line.result ≡ next at.0 =
    c.saturating_add-line.ensures ∙ ap (λ x. next x.0) c.unwrap_or-line.ensures in
    let column : c.saturating_add-column.result ≡ next at.1 =
    c.saturating_add-column.ensures ∙ ap (λ x. next x.1) c.unwrap_or-line.ensures in
    if_ok _ _
    (λ text is.
    let e : string_bytes text ≡ placed c.saturating_add-line.result c.saturating_add-column.result message = is in
    e ∙ ap (λ (n : ℕ). placed n c.saturating_add-column.result message) line
    ∙ ap (λ (n : ℕ). placed (next at.0) n message) column)
    c.format.result c.format.ensures.ok
