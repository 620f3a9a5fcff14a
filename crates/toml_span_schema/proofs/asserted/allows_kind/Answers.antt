use Rattle.std.proofs.Common.{◌≡◌, ap, sym, ◌∙◌}
use Rattle.toml_span_tree.proofs.Values.{inner_view-Table}
use Rattle.toml_span_tree.specs.Node.{table}
use Rattle.toml_span_tree.specs.Value.{inner_of, inner_view, members_view, view}
use Rattle.toml_span_schema.specs.Asserted.{allows_kind, allows_table_of}
use Rattle.toml_span_schema.proofs.Views.{members_count_view}
use Rattle.toml_span_schema.proofs.asserted.allows_kind.Goals as goal

pub returns-in-Table : goal.returns-in-Table
unfolding allows_kind
returns-in-Table c =
    let inner : inner_of (view c.args.value.now) ≡ table (members_view c.in-Table.table.entries) =
    ap inner_of c.as_ref.ensures ∙ ap inner_view c.in-Table.is ∙ inner_view-Table c.in-Table.table in
    c.allows_table.ensures
    ∙ ap (λ x. allows_table_of c.args.keyword.now x (view c.args.value.now)) (c.len.ensures.len ∙ sym (members_count_view c.in-Table.table.entries))
    ∙ sym (ap (allows_kind c.args.schema.now c.args.keyword.now (view c.args.value.now)) inner)
