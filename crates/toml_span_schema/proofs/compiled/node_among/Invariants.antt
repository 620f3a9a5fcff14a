use Rattle.std.proofs.Common.{◌≡◌, drop}
use Rattle.toml_span_schema.specs.Compiled.{node_among}
use Rattle.toml_span_schema.proofs.compiled.node_among.Given as goal

abbrev pub invariant-loop-placed : goal.invariant-loop-placed
invariant-loop-placed l =
    node_among l.name l.at l.key (drop l.placed-index l.keywords) ≡ node_among l.name l.at l.key l.keywords
