use Rattle.toml_span_lex.proofs.Common.{option_map, ap, ◌∙◌}
use Rattle.toml_span_tree.specs.Names.{name_in}
use Rattle.toml_span_tree.specs.Value.{view}
use Rattle.toml_span_tree.proofs.Values.{view-of_ref, view-lookup}
use Rattle.toml_span_tree.proofs.lookup.compiled.table_at.Goals as goal

pub returns : goal.returns
returns c =
    view-of_ref c.get.result
    ∙ ap (option_map view) c.get.ensures.value
    ∙ view-lookup (name_in c.args.name.now) c.args.table.now.entries
