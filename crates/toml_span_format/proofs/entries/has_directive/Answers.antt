use Rattle.toml_span_lex.proofs.Common.{◌∙◌, ◌+◌, ◌||◌, ap, arith, list_any, slice_range, sym}
use Rattle.toml_span_format.specs.Entries.{is_directive}
use Rattle.toml_span_format.proofs.PieceLemmas.{any_end, any_next}
use Rattle.toml_span_format.proofs.entries.has_directive.Goals as goal

pub loop-at-preserved : goal.loop-at-preserved
loop-at-preserved c =
    let rest = list_any (is_directive c.args.text.now) (slice_range c.args.pieces.now (c.loop-at.at + 1) c.args.end) in
    let next = any_next (is_directive c.args.text.now) c.args.pieces.now c.loop-at.at c.args.end (omega arith) (omega arith) in
    c.loop-at.invariant ∙ next ∙ ap (λ b. b || rest) (sym c.is_directive.ensures ∙ c.if-is_directive.false)

pub returns-then-is_directive : goal.returns-then-is_directive
returns-then-is_directive c =
    let rest = list_any (is_directive c.args.text.now) (slice_range c.args.pieces.now (c.loop-at.at + 1) c.args.end) in
    let next = any_next (is_directive c.args.text.now) c.args.pieces.now c.loop-at.at c.args.end (omega arith) (omega arith) in
    sym (c.loop-at.invariant ∙ next ∙ ap (λ b. b || rest) (sym c.is_directive.ensures ∙ c.if-is_directive.true))

pub returns : goal.returns
returns c = sym (c.loop-at.invariant ∙ any_end (is_directive c.args.text.now) c.args.pieces.now c.loop-at.at c.args.end (omega arith))
