use Rattle.std.proofs.Common.{◌≡◌, ◌≤◌, ◌+◌, drop}
use Rattle.json.specs.Value.{items_view}
use Rattle.toml_span_schema.specs.Agrees.{constants_in, has_constants}
use Rattle.toml_span_schema.proofs.agrees.are_constants.Given as goal

abbrev pub invariant-loop-item : goal.invariant-loop-item
invariant-loop-item l = record {
  in_range : l.most ≤ l.item-index;
  rest : has_constants l.values (items_view (drop l.item-index l.items)) ≡ has_constants l.values (items_view l.items);
  count : l.most + constants_in (items_view (drop l.item-index l.items)) ≡ constants_in (items_view l.items);
}
