use Rattle.toml_span_lex.proofs.Common.{◌≡◌, ◌∙◌, ◌++◌, List, ℕ, codes, map, subst, sym}
use Rattle.toml_span_read.specs.Data.{depth_limit}
use Rattle.toml_span_tree.specs.Value.{view}
use Rattle.toml_span.specs.Parsing.{IsTree}
use Rattle.toml_span_edit.specs.Refused.{is_set}
use Rattle.toml_span_edit.proofs.Retried.{read_as, set_if, set_not}
use Rattle.toml_span_edit.proofs.Steps.{now_of}
use Rattle.toml_span_edit.proofs.retrying.sets.Goals as goal

pub returns-clause-set : goal.returns-clause-set
returns-clause-set c =
    let value : List ℕ = c.args.value.now in
    let path : List (List ℕ) = map now_of c.args.path.now in
    let given = c.in-Ok.given in
    let root = c.in-Ok-2.root in
    let probe : c.as_str.result.now ≡ codes "v = " ++ value = c.as_str.ensures.value ∙ c.in_ok-probe.ensures in
    let again : c.as_str-2.result.now ≡ codes "v = " ++ value = c.as_str-2.ensures.value ∙ c.in_ok-probe.ensures in
    let tree = subst (λ (t : List ℕ). IsTree t depth_limit given) probe (read_as _ _ _ c.in-Ok.is c.in_ok-given.ensures.tree) in
    let read = read_as c.args.new.now root _ c.in-Ok-2.is c.in_ok-root.ensures.tree in
    let is = subst (λ (t : List ℕ). c.is_set.result ≡ is_set t (view given) path (view c.args.old.now) (view root)) again c.is_set.ensures in
    λ h. set_if value c.args.new.now path (view c.args.old.now) given root tree read (sym is ∙ h)

pub returns-clause-not_set : goal.returns-clause-not_set
returns-clause-not_set c =
    let value : List ℕ = c.args.value.now in
    let path : List (List ℕ) = map now_of c.args.path.now in
    let given = c.in-Ok.given in
    let root = c.in-Ok-2.root in
    let probe : c.as_str.result.now ≡ codes "v = " ++ value = c.as_str.ensures.value ∙ c.in_ok-probe.ensures in
    let again : c.as_str-2.result.now ≡ codes "v = " ++ value = c.as_str-2.ensures.value ∙ c.in_ok-probe.ensures in
    let tree = subst (λ (t : List ℕ). IsTree t depth_limit given) probe (read_as _ _ _ c.in-Ok.is c.in_ok-given.ensures.tree) in
    let read = read_as c.args.new.now root _ c.in-Ok-2.is c.in_ok-root.ensures.tree in
    let is = subst (λ (t : List ℕ). c.is_set.result ≡ is_set t (view given) path (view c.args.old.now) (view root)) again c.is_set.ensures in
    λ h. set_not value c.args.new.now path (view c.args.old.now) given root tree read (sym is ∙ h)
