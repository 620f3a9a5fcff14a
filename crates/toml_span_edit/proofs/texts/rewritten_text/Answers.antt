use Rattle.toml_span_lex.proofs.Common.{inr}
use Rattle.toml_span_edit.proofs.Steps.{front_of, last_of, split_last, if_ok}
use Rattle.toml_span_edit.proofs.texts.rewritten_text.Goals as goal

pub returns-in-Some-default-true : goal.returns-in-Some-default-true
returns-in-Some-default-true c =
    let path = c.args.path.now in
    if_ok _ _ (λ new cut. inr (front_of path, last_of path, split_last path c.in-len1-up.len_at_least, cut))
    c.cut_then_inserted.result c.cut_then_inserted.ensures
