use Rattle.toml_span_lex.proofs.Common.{ℕ, List, subst, sym, map}
use Rattle.toml_span_tree.specs.Value.{view}
use Rattle.toml_span_edit.specs.Kept.{IsCut}
use Rattle.toml_span_edit.proofs.Steps.{if_ok}
use Rattle.toml_span_edit.proofs.texts.cut_then_inserted.Goals as goal

pub returns : goal.returns
returns c =
    let path = map (λ s. s.now) c.args.path.now in
    let cut = subst (λ (mid : List ℕ). IsCut path (view c.args.old.tree.now) c.args.old.text.now mid) (sym c.as_str.ensures.value) c.in_ok-without.ensures in
    if_ok _ _ (λ new inserted. (_, cut, inserted)) c.with_value.result c.with_value.ensures
