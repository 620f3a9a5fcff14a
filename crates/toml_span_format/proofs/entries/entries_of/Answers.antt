use Rattle.toml_span_lex.proofs.Common.{◌∙◌, ◌+◌, ap, arith, drop, sym}
use Rattle.toml_span_format.specs.Entries.{entries_from, state}
use Rattle.toml_span_format.proofs.PieceLemmas.{entries_end, entries_next}
use Rattle.toml_span_format.proofs.entries.entries_of.Goals as goal

pub loop-statement-preserved : goal.loop-statement-preserved
loop-statement-preserved c =
    let text = c.args.text.now in
    let ps = c.args.pieces.now in
    let ss = c.args.statements.now in
    let i = c.loop-statement.statement-index in
    c.loop-statement.invariant ∙ entries_next text ps (state c.loop-statement.grouping) ss i (omega arith)
    ∙ ap (λ s. entries_from text ps s (drop (i + 1) ss)) (sym c.in_ok-statement.ensures)

pub returns : goal.returns
returns c =
    let text = c.args.text.now in
    let ps = c.args.pieces.now in
    let ss = c.args.statements.now in
    ap (λ s. s.entries) c.in_ok-close.ensures
    ∙ sym (c.loop-statement.invariant ∙ entries_end text ps (state c.loop-statement.grouping) ss c.loop-statement.statement-index (omega arith))
