use Rattle.std.proofs.Common.{◌≡◌, drop, map}
use Rattle.json.specs.Value.{value_view}
use Rattle.toml_span_schema.specs.Agrees.{have_values}
use Rattle.toml_span_schema.proofs.agrees.have_values.Given as goal

abbrev pub invariant-loop-name : goal.invariant-loop-name
invariant-loop-name l =
    have_values l.draft l.keywords (map (λ n. n.now) (drop l.name-index l.names)) (value_view l.value)
    ≡ have_values l.draft l.keywords (map (λ n. n.now) l.names) (value_view l.value)
