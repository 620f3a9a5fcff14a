use Rattle.toml_span_lex.proofs.Common.{ap, ◌∙◌, BTreeMap}
use Rattle.toml_span_lex.specs.declared.key.Key.{Key}
use Rattle.toml_span_tree.specs.declared.value.Value.{Value}
use Rattle.toml_span_tree.specs.Node.{Inner, node, table}
use Rattle.toml_span_tree.specs.Value.{members_view}
use Rattle.toml_span_tree.proofs.Values.{inner_view-Table}
use Rattle.toml_span_typed.proofs.de_helpers.table_helper.TableHelper.take_rest.Goals as goal

pub returns-clause-rest : goal.returns-clause-rest
returns-clause-rest c =
    let span = c.args.self.now.span in
    c.with_span.ensures.view ∙ ap (λ (i : Inner). node i span) (inner_view-Table _)
    ∙ ap (λ (m : BTreeMap Key Value). node (table (members_view m.entries)) span) c.replace-table.ensures.value
