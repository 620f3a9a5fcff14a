use Rattle.std.proofs.Common.{◌≡◌, ◌++◌, drop}
use Rattle.toml_span_check.specs.Comments.{comments, comments_from}
use Rattle.toml_span_check.proofs.comments.comments.Given as goal

abbrev pub invariant-loop-piece : goal.invariant-loop-piece
invariant-loop-piece l = comments l.text l.pieces ≡ l.out.items ++ comments_from l.text l.place (drop l.piece-index l.pieces)
