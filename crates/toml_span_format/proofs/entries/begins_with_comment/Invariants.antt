use Rattle.toml_span_lex.proofs.Common.{◌≡◌, drop}
use Rattle.toml_span_format.specs.Entries.{begins_with_comment}
use Rattle.toml_span_format.proofs.entries.begins_with_comment.Given as goal

abbrev pub invariant-loop-piece : goal.invariant-loop-piece
invariant-loop-piece l = begins_with_comment l.pieces ≡ begins_with_comment (drop l.piece-index l.pieces)
