use Rattle.toml_span_lex.proofs.Common.{◌∙◌, length, sym}
use Rattle.toml_span_format.proofs.Documents.{same_lists}
use Rattle.toml_span_format.proofs.PieceLemmas.{spans_in}
use Rattle.toml_span_format.proofs.document.has_same_tokens.Goals as goal

pub tokens_of-requires : goal.tokens_of-requires
tokens_of-requires c =
    rw (c.as_bytes.ensures.value, c.as_slice.ensures.value) (spans_in c.args.old.now.text.now 0 c.args.old.now.pieces.items (length c.args.old.now.text.now) c.requires.old.covers)

pub tokens_of-requires-2 : goal.tokens_of-requires-2
tokens_of-requires-2 c =
    rw (c.as_bytes-2.ensures.value, c.as_slice-2.ensures.value) (spans_in c.args.new.now.text.now 0 c.args.new.now.pieces.items (length c.args.new.now.text.now) c.requires.new.covers)

pub returns : goal.returns
returns c = λ t.
    let one = rw (c.as_bytes.ensures.value, c.as_slice.ensures.value) at c.in_ok-before.ensures in
    let two = rw (c.as_bytes-2.ensures.value, c.as_slice-2.ensures.value) at c.in_ok-after.ensures in
    let same = rw (c.as_slice-3.ensures.value, c.as_slice-4.ensures.value) at (c.same_texts.ensures.0 t) in
    same_lists c.args.old.now c.args.new.now c.requires.old c.requires.new (sym one ∙ same ∙ two)
