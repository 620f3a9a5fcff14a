use Rattle.toml_span_lex.proofs.Common.{sym, ◌∙◌}
use Rattle.toml_span_edit.proofs.Steps.{front_of, last_of, split_last}
use Rattle.toml_span_edit.proofs.refusing.has_sibling.Goals as goal

pub returns-in-len1-up : goal.returns-in-len1-up
returns-in-len1-up c =
    let path = c.args.path.now in
    λ e. (front_of path, last_of path, split_last path c.in-len1-up.len_at_least, sym c.has_child.ensures ∙ e)
