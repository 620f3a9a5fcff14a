use Rattle.toml_span_lex.proofs.Common.{◌≡◌, drop, false}
use Rattle.toml_span_check.specs.Safety.{ends_with_comma}
use Rattle.toml_span_check.proofs.fixing.ends_with_comma.Given as goal

abbrev pub invariant-loop-piece : goal.invariant-loop-piece
invariant-loop-piece l = ends_with_comma l.is_last (drop l.piece-index l.pieces) ≡ ends_with_comma false l.pieces
