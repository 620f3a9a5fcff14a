use Rattle.toml_span_lex.proofs.Common.{◌≡◌, drop}
use Rattle.std.specs.List.{fold}
use Rattle.toml_span_syntax.specs.Statements.{depth_after}
use Rattle.toml_span_check.proofs.statements.is_open.Given as goal

abbrev pub invariant-loop-piece : goal.invariant-loop-piece
invariant-loop-piece l =
    fold (λ depth piece. depth_after depth piece.kind) l.depth (drop l.piece-index l.piece-items)
    ≡ fold (λ depth piece. depth_after depth piece.kind) 0 l.piece-items
