use Rattle.std.proofs.Common.{◌≡◌, drop}
use Rattle.json.specs.Value.{items_view}
use Rattle.toml_span_schema.specs.Agrees.{are_texts}
use Rattle.toml_span_schema.proofs.agrees.are_texts.Given as goal

abbrev pub invariant-loop-at : goal.invariant-loop-at
invariant-loop-at l =
    are_texts l.texts l.at (items_view (drop l.at l.items)) ≡ are_texts l.texts 0 (items_view l.items)
