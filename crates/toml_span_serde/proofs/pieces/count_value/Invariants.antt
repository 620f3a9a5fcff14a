use Rattle.toml_span_lex.proofs.Common.{◌≡◌, ◌≤◌, drop, map}
use Rattle.toml_span_serde.specs.Tasks.{piece_of}
use Rattle.toml_span_serde.proofs.Counts.{counted}
use Rattle.toml_span_serde.proofs.pieces.count_value.Given as goal

abbrev pub invariant-loop-piece : goal.invariant-loop-piece
invariant-loop-piece l =
    (l.count ≡ l.piece-index) × (l.depth ≤ l.piece-index)
    × (counted l.count l.depth (map piece_of (drop l.piece-index l.ahead)) ≡ counted 0 0 (map piece_of l.ahead))
