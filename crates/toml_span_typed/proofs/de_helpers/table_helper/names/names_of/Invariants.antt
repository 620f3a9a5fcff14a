use Rattle.toml_span_lex.proofs.Common.{◌≡◌, ◌++◌, drop, map}
use Rattle.toml_span_tree.specs.Value.{items_view}
use Rattle.toml_span_typed.specs.Names.{named, names_of}
use Rattle.toml_span_typed.proofs.de_helpers.table_helper.names.names_of.Given as goal

abbrev pub invariant-loop-item : goal.invariant-loop-item
invariant-loop-item l =
    map named l.names.items ++ names_of l.name (items_view (drop l.item-index l.items)) ≡ names_of l.name (items_view l.items)
