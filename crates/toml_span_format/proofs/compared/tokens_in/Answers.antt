use Rattle.toml_span_lex.proofs.Common.{arith, length}
use Rattle.toml_span_format.proofs.PieceLemmas.{spans_between, spans_in}
use Rattle.toml_span_format.proofs.compared.tokens_in.Goals as goal

pub tokens_of-requires : goal.tokens_of-requires
tokens_of-requires c =
    let text = c.args.document.now.text.now in
    let ps = c.args.document.now.pieces.items in
    rw (c.as_slice-pieces.ensures.value, c.as_bytes.ensures.value)
    (spans_between text ps c.args.entry.first c.args.entry.end (spans_in text 0 ps (length text) c.requires.covers) (omega (arith, c.len.ensures, c.if-entry-len.false)))
