use Rattle.toml_span_lex.proofs.Common.{is_some, option_and_then, ap, ◌∙◌, List, ℕ, lookup}
use Rattle.toml_span_tree.specs.Node.{get_member}
use Rattle.toml_span_tree.proofs.Values.{view-lookup, is_some-view, at_name}
use Rattle.toml_span_tree.proofs.value.Value.has_key.Goals as goal

pub returns-in-Some : goal.returns-in-Some
returns-in-Some c =
    let name = c.args.key.now in
    let es = c.in-Some.table.now.entries in
    c.contains_key.ensures
    ∙ ap (λ (n : List ℕ). is_some (lookup (at_name n) es)) c.named.ensures.0
    ∙ is_some-view _
    ∙ ap is_some (view-lookup name es)
    ∙ ap (λ m. is_some (option_and_then (get_member name) m)) c.in-Some.ensures
