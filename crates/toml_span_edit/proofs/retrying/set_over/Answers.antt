use Rattle.toml_span_lex.proofs.Common.{◌≡◌, ◌∙◌, ◌∷◌, List, [], ℕ, Some, ap, map, option_map, string_bytes, subst, sym}
use Rattle.toml_span_lex.specs.declared.span.Span.{Span}
use Rattle.toml_span_tree.specs.Value.{view}
use Rattle.toml_span_places.specs.Replace.{replaced}
use Rattle.toml_span_edit.specs.Refused.{IsNotSet}
use Rattle.toml_span_edit.proofs.Retried.{only_text}
use Rattle.toml_span_edit.proofs.Steps.{now_of}
use Rattle.toml_span_edit.proofs.retrying.set_over.Goals as goal

pub returns-else-branch-clause-none : goal.returns-else-branch-clause-none
returns-else-branch-clause-none c =
    let value : List ℕ = c.args.value.now in
    let text : List ℕ = c.args.old.text.now in
    let path : List (List ℕ) = map now_of c.args.path.now in
    let out : List ℕ = string_bytes c.in-Some-2.new in
    let made = subst (λ (s : Span). replaced text ((s, value) ∷ []) ≡ Some out) c.literal_span.ensures
    (sym c.in_ok-new.ensures ∙ ap (option_map string_bytes) c.in-Some-2.is) in
    let unset = subst (λ (t : List ℕ). IsNotSet value path (view c.args.old.tree.now) t) c.as_str.ensures.value
    (c.in_ok-sets.ensures.not_set c.if-branch.false) in
    only_text value path (view c.args.old.tree.now) (view c.in-Some.there.now) text out (sym c.in-Some.ensures) made unset
