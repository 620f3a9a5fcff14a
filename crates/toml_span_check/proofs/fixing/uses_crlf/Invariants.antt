use Rattle.toml_span_lex.proofs.Common.{◌≡◌, drop}
use Rattle.toml_span_check.specs.Safety.{uses_crlf}
use Rattle.toml_span_check.proofs.fixing.uses_crlf.Given as goal

abbrev pub invariant-loop-piece : goal.invariant-loop-piece
invariant-loop-piece l = uses_crlf l.pieces ≡ uses_crlf (drop l.piece-index l.pieces)
