use Rattle.toml_span_lex.proofs.Common.{◌≡◌, [], drop, map}
use Rattle.toml_span_serde.specs.Tasks.{piece_of}
use Rattle.toml_span_serde.specs.Walk.{walked, way_of}
use Rattle.toml_span_serde.proofs.path.way_after.Given as goal

abbrev pub invariant-loop-piece : goal.invariant-loop-piece
invariant-loop-piece l = walked (map piece_of (drop l.piece-index l.before)) (way_of l.downs.items) ≡ walked (map piece_of l.before) []
