use Rattle.toml_span_lex.proofs.Common.{◌≡◌, map, take}
use Rattle.toml_span_serde.specs.Misfits.{path_of}
use Rattle.toml_span_serde.specs.Walk.{down_of}
use Rattle.toml_span_serde.proofs.path.steps_of.Given as goal

abbrev pub invariant-loop-down : goal.invariant-loop-down
invariant-loop-down l = path_of l.path.items ≡ map down_of (take l.down-index l.downs)
