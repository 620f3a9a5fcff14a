use Rattle.toml_span_edit.proofs.Steps.{on_ok}
use Rattle.toml_span_edit.proofs.comments.push_all.Goals as goal

pub returns : goal.returns
returns c =
    on_ok _ _ (λ pushed. (c.in_ok-own.own.items, c.in_ok-own.ensures, rw c.as_slice.ensures.value at pushed))
    c.push_comments.result c.push_comments.ensures
