use Rattle.toml_span_lex.proofs.Common.{◌≡◌, ◌++◌, drop, map}
use Rattle.toml_span_edit.specs.Comments.{comments}
use Rattle.toml_span_edit.proofs.comments.push_comments.Given as goal

abbrev pub invariant-loop-piece : goal.invariant-loop-piece
invariant-loop-piece l =
    map (λ t. t.now) l.found.items ++ comments l.text (drop l.piece-index l.pieces)
    ≡ map (λ t. t.now) l.initial.found.items ++ comments l.text l.pieces
