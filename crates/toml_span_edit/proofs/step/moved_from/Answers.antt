use Rattle.toml_span_lex.proofs.Common.{ℕ, List, map, subst}
use Rattle.toml_span_tree.specs.Value.{view}
use Rattle.toml_span_edit.specs.Edited.{IsPutBack}
use Rattle.toml_span_edit.proofs.Steps.{now_of}
use Rattle.toml_span_edit.proofs.step.moved_from.Goals as goal

pub returns-clause-moved : goal.returns-clause-moved
returns-clause-moved c =
    let rest = view c.in_ok-rest.rest in
    let is_put = λ (text : List ℕ). IsPutBack (map now_of c.args.target.now) (view c.args.value.now) rest text in
    (rest, c.in_ok-rest.ensures, subst is_put c.as_str.ensures.value c.in_ok-check_put_back.ensures)
