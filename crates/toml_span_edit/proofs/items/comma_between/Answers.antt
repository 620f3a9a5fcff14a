use Rattle.std.proofs.lemmas.Str.{IsCharBoundary-start}
use Rattle.toml_span_edit.proofs.items.comma_between.Goals as goal

pub pieces-init : goal.pieces-init
pieces-init c = IsCharBoundary-start c.part-space.result.now c.part-space.utf8

pub pieces-preserved : goal.pieces-preserved
pieces-preserved c = c.piece_at-piece.ensures.span.boundary
