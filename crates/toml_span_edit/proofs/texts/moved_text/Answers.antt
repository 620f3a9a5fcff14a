use Rattle.toml_span_lex.proofs.Common.{inr}
use Rattle.toml_span_edit.proofs.Steps.{if_ok}
use Rattle.toml_span_edit.proofs.texts.moved_text.Goals as goal

pub returns-in-Some : goal.returns-in-Some
returns-in-Some c =
    if_ok _ _ (λ new is. inr (inr (c.in-Some.name.now, is))) c.renamed_text.result c.renamed_text.ensures
