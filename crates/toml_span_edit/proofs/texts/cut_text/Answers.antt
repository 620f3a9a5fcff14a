use Rattle.toml_span_edit.proofs.Steps.{if_ok}
use Rattle.toml_span_edit.proofs.texts.cut_text.Goals as goal

pub returns : goal.returns
returns c =
    if_ok _ _ (λ new kept. (c.in_ok-new.span, c.in_ok-new.ensures, kept)) c.if_around.result c.if_around.ensures
