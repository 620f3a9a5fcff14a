use Rattle.toml_span_lex.proofs.Common.{◌≡◌, ◌++◌, drop, map}
use Rattle.toml_span_tree.specs.Nodes.{step_of}
use Rattle.toml_span_places.specs.Tables.{forms_at, table_mention}
use Rattle.toml_span_places.proofs.tables.forms_of.Given as goal

abbrev pub invariant-loop-place : goal.invariant-loop-place
invariant-loop-place l =
    l.forms.items ++ forms_at (map step_of l.path) (map table_mention (drop l.place-index l.places))
    ≡ forms_at (map step_of l.path) (map table_mention l.places)
