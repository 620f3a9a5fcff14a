use Rattle.std.proofs.Common.{◌≡◌, drop, Some}
use Rattle.json.specs.Value.{value_view}
use Rattle.toml_span_schema.specs.Agrees.{has_value}
use Rattle.toml_span_schema.proofs.agrees.has_value.Given as goal

abbrev pub invariant-loop-placed : goal.invariant-loop-placed
invariant-loop-placed l =
    has_value l.draft (drop l.placed-index l.keywords) l.name (Some (value_view l.value))
    ≡ has_value l.draft l.keywords l.name (Some (value_view l.value))
