use Rattle.toml_span_edit.proofs.Steps.{front_of, last_of, split_last, if_ok}
use Rattle.toml_span_edit.proofs.step.is_under.Goals as goal

pub returns-in-len1-up : goal.returns-in-len1-up
returns-in-len1-up c =
    let path = c.args.path.now in
    if_ok _ _ (λ holds is_placed e. (front_of path, last_of path, split_last path c.in-len1-up.len_at_least, is_placed e))
    c.is_placed.result c.is_placed.ensures
