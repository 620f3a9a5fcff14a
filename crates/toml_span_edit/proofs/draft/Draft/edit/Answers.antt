use Rattle.toml_span_lex.proofs.Common.{ℕ, List, string_bytes, subst}
use Rattle.toml_span_edit.specs.Drafts.{IsEditedAt}
use Rattle.toml_span_edit.proofs.draft.Draft.edit.Goals as goal

pub returns-clause-made : goal.returns-clause-made
returns-clause-made c =
    subst (λ (text : List ℕ). IsEditedAt c.args.path.now c.args.change text (string_bytes c.in_ok-new.new))
    c.as_str.ensures.value c.in_ok-new.ensures.made
