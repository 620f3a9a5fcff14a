use Rattle.std.proofs.Common.{◌≡◌, ◌++◌, drop}
use Rattle.toml_span_check.specs.Drafts.{piece_sizes}
use Rattle.toml_span_check.proofs.drafts.push_pieces.Given as goal

abbrev pub invariant-loop-piece : goal.invariant-loop-piece
invariant-loop-piece l =
    l.out.items ++ piece_sizes (drop l.piece-index l.pieces) ≡ l.initial.out.items ++ piece_sizes l.pieces
