use Rattle.toml_span_lex.proofs.Common.{◌∙◌, ap, map, sym, drop_all}
use Rattle.toml_span_serde.specs.Tasks.{piece_of}
use Rattle.toml_span_serde.proofs.Counts.{counted, counted-value, ends-here}
use Rattle.toml_span_serde.proofs.pieces.count_value.Goals as goal

pub returns-then-depth-eq0-clause-value : goal.returns-then-depth-eq0-clause-value
returns-then-depth-eq0-clause-value c = λ n rest is.
    ends-here c.loop-piece.piece-index c.args.ahead.now c.piece-item.result c.loop-piece.count c.loop-piece.depth _
    c.loop-piece-test.true (sym c.piece-item.is) (sym c.depth_after-depth.ensures ∙ c.if-depth-eq0.true)
    (c.loop-piece.invariant.2 ∙ ap (counted 0 0) is ∙ counted-value n rest)

pub returns-clause-value : goal.returns-clause-value
returns-clause-value c = λ n rest is.
    sym (ap (λ ps. counted c.loop-piece.count c.loop-piece.depth (map piece_of ps)) (drop_all c.loop-piece.piece-index c.args.ahead.now c.loop-piece-test.false))
    ∙ c.loop-piece.invariant.2 ∙ ap (counted 0 0) is ∙ counted-value n rest
