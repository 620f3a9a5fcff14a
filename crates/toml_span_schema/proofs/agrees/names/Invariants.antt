use Rattle.std.proofs.Common.{◌≡◌, drop}
use Rattle.json.specs.Value.{items_view, value_view}
use Rattle.toml_span_schema.specs.Agrees.{has_text, names}
use Rattle.toml_span_schema.proofs.agrees.names.Given as goal

abbrev pub invariant-loop-item : goal.invariant-loop-item
invariant-loop-item l =
    has_text (items_view (drop l.item-index l.item-items)) l.name ≡ names (value_view l.value) l.name
