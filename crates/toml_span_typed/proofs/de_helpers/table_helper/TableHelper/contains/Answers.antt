use Rattle.toml_span_lex.proofs.Common.{ℕ, List, ap, is_some, ◌∙◌, lookup}
use Rattle.toml_span_tree.proofs.Values.{at_name, is_some-view, view-lookup}
use Rattle.toml_span_typed.proofs.de_helpers.table_helper.TableHelper.contains.Goals as goal

pub returns : goal.returns
returns c =
    let es = c.args.self.now.table.entries in
    c.contains_key.ensures
    ∙ ap (λ (n : List ℕ). is_some (lookup (at_name n) es)) c.named.ensures.0
    ∙ is_some-view (lookup (at_name c.args.name.now) es) ∙ ap is_some (view-lookup c.args.name.now es)
