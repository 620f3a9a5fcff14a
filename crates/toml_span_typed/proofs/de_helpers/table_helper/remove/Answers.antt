use Rattle.toml_span_lex.proofs.Common.{ℕ, List, ap, ◌∙◌, lookup, lookup_key, remove_entry}
use Rattle.toml_span_tree.specs.Value.{members_view}
use Rattle.toml_span_tree.proofs.Values.{at_name}
use Rattle.toml_span_typed.proofs.Tables.{entry-of_parts, named-of_equal, without-of_name}
use Rattle.toml_span_typed.proofs.de_helpers.table_helper.remove.Goals as goal

pub returns-clause-rest : goal.returns-clause-rest
returns-clause-rest c =
    let es = c.args.table.now.entries in
    ap members_view c.remove_entry.ensures.entries
    ∙ ap (λ (n : List ℕ). members_view (remove_entry (at_name n) es)) c.named.ensures.0
    ∙ without-of_name c.args.name.now es

pub returns-clause-entry : goal.returns-clause-entry
returns-clause-entry c =
    let es = c.args.table.now.entries in
    entry-of_parts c.args.name.now es c.remove_entry.result
    (c.remove_entry.ensures.key ∙ ap (λ (n : List ℕ). lookup_key (at_name n) es) c.named.ensures.0)
    (c.remove_entry.ensures.value ∙ ap (λ (n : List ℕ). lookup (at_name n) es) c.named.ensures.0)

pub returns-clause-name : goal.returns-clause-name
returns-clause-name c = named-of_equal c.args.name.now _ c.remove_entry.result c.named.ensures.0 c.remove_entry.ensures.same_key
