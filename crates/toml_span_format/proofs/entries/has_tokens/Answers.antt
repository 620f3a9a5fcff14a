use Rattle.toml_span_lex.proofs.Common.{◌∙◌, ◌+◌, ◌||◌, ap, arith, list_any, not, slice_range, sym}
use Rattle.toml_span_format.specs.Tokens.{is_layout}
use Rattle.toml_span_format.proofs.PieceLemmas.{any_end, any_next}
use Rattle.toml_span_format.proofs.entries.has_tokens.Goals as goal

pub loop-at-preserved : goal.loop-at-preserved
loop-at-preserved c =
    let rest = list_any (λ p. not (is_layout p.kind)) (slice_range c.args.pieces.now (c.loop-at.at + 1) c.args.end) in
    let next = any_next (λ p. not (is_layout p.kind)) c.args.pieces.now c.loop-at.at c.args.end (omega arith) (omega arith) in
    c.loop-at.invariant ∙ next ∙ ap (λ b. not b || rest) (sym c.is_layout.ensures ∙ c.if-not-is_layout.false)

pub returns-then-not-is_layout : goal.returns-then-not-is_layout
returns-then-not-is_layout c =
    let rest = list_any (λ p. not (is_layout p.kind)) (slice_range c.args.pieces.now (c.loop-at.at + 1) c.args.end) in
    let next = any_next (λ p. not (is_layout p.kind)) c.args.pieces.now c.loop-at.at c.args.end (omega arith) (omega arith) in
    sym (c.loop-at.invariant ∙ next ∙ ap (λ b. not b || rest) (sym c.is_layout.ensures ∙ c.if-not-is_layout.true))

pub returns : goal.returns
returns c = sym (c.loop-at.invariant ∙ any_end (λ p. not (is_layout p.kind)) c.args.pieces.now c.loop-at.at c.args.end (omega arith))
