use Rattle.toml_span_lex.proofs.Common.{◌≡◌, ℕ, List, [], ◌∷◌, ◌++◌, ap, ◌∙◌, refl, subst, string_bytes}
use Rattle.toml_span_edit.specs.Edited.{EditsMade}
use Rattle.toml_span_edit.specs.declared.edits.Change.TheVariants as changes
use Rattle.toml_span_edit.specs.declared.edits.Edit.{Edit}
use Rattle.toml_span_editor.proofs.missing.added.Goals as goal

pub returns-in-Ok : goal.returns-in-Ok
returns-in-Ok c =
    let e : Edit = record { path = c.args.path; change = changes.SetOrAdd c.args.value } in
    let new : List ℕ = string_bytes c.in-Ok.new in
    let items : c.push.new.self.list.items ≡ e ∷ [] =
    c.in_ok-push.ensures.0 ∙ ap (λ (es : List Edit). es ++ e ∷ []) c.new-edits.ensures.1 in
    let text : c.push.new.self.text.now ≡ c.args.text.now = rw (c.in_ok-push.ensures.1, c.new-edits.ensures.0) refl in
    let P : List Edit → Type 0 = λ es. EditsMade es c.args.text.now new in
    let Q : List ℕ → Type 0 = λ t. EditsMade c.push.new.self.list.items t new in
    (e, refl, refl, subst P items (subst Q text c.in-Ok.ensures))
