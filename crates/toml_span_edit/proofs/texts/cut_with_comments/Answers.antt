use Rattle.toml_span_edit.proofs.Steps.{if_ok}
use Rattle.toml_span_edit.proofs.texts.cut_with_comments.Goals as goal

pub returns : goal.returns
returns c =
    let comments = c.comments_from.ensures in
    if_ok _ _ (λ new kept. (c.in_ok-new.span, c.comments_from.result, c.in_ok-new.ensures, comments.on, comments.comments, kept))
    c.if_around.result c.if_around.ensures
