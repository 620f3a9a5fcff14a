use Rattle.toml_span_lex.proofs.Common.{List, ℕ, option_map, ap, ◌∙◌, lookup}
use Rattle.toml_span_tree.specs.Value.{view}
use Rattle.toml_span_tree.proofs.Values.{view-of_ref, view-lookup, at_name}
use Rattle.toml_span_typed.proofs.de_helpers.table_helper.names.entry.Goals as goal

pub returns : goal.returns
returns c =
    let es = c.args.table.now.entries in
    view-of_ref c.get.result
    ∙ ap (option_map view) (c.get.ensures.value ∙ ap (λ (n : List ℕ). lookup (at_name n) es) c.named.ensures.0)
    ∙ view-lookup c.args.name.now es
