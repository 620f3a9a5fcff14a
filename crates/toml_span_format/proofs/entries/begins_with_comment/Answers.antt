use Rattle.toml_span_lex.proofs.Common.{◌∙◌, ◌+◌, ap, arith, drop, drop_all, get_or, if◌then◌else◌, sym}
use Rattle.toml_span_format.specs.Entries.{begins_with_comment, is_comment_kind}
use Rattle.toml_span_format.proofs.PieceLemmas.{begins_next, no_piece}
use Rattle.toml_span_format.proofs.entries.begins_with_comment.Goals as goal

pub loop-piece-preserved : goal.loop-piece-preserved
loop-piece-preserved c =
    let ps = c.args.pieces.now in
    let i = c.loop-piece.piece-index in
    c.loop-piece.invariant ∙ begins_next ps i (omega arith)
    ∙ ap (λ b. if b then begins_with_comment (drop (i + 1) ps) else is_comment_kind (get_or ps i no_piece).kind) (sym c.is_layout.ensures ∙ c.if-not-is_layout.false)

pub returns-then-not-is_layout : goal.returns-then-not-is_layout
returns-then-not-is_layout c =
    let ps = c.args.pieces.now in
    let i = c.loop-piece.piece-index in
    c.is_comment.ensures ∙ sym (c.loop-piece.invariant ∙ begins_next ps i (omega arith)
    ∙ ap (λ b. if b then begins_with_comment (drop (i + 1) ps) else is_comment_kind (get_or ps i no_piece).kind) (sym c.is_layout.ensures ∙ c.if-not-is_layout.true))

pub returns : goal.returns
returns c = sym (c.loop-piece.invariant ∙ ap begins_with_comment (drop_all c.loop-piece.piece-index c.args.pieces.now (omega arith)))
