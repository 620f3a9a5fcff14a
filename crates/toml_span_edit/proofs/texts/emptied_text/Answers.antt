use Rattle.toml_span_lex.proofs.Common.{ℕ, List, subst, sym}
use Rattle.toml_span_tree.specs.Value.{view}
use Rattle.toml_span_edit.specs.Kept.{IsCutWithComments}
use Rattle.toml_span_edit.proofs.Steps.{front_of, last_of, split_last, if_ok}
use Rattle.toml_span_edit.proofs.texts.emptied_text.Goals as goal

pub returns : goal.returns
returns c =
    let path = c.args.path.now in
    let cut = subst (λ (mid : List ℕ). IsCutWithComments (front_of path) (view c.args.old.tree.now) c.args.old.text.now mid) (sym c.as_str.ensures.value) c.in_ok-without.ensures in
    if_ok _ _ (λ new inserted. (front_of path, last_of path, _, split_last path c.in-len1-up.len_at_least, cut, inserted))
    c.inserted_text.result c.inserted_text.ensures
