use Rattle.toml_span_lex.proofs.Common.{◌∙◌, ◌∷◌, ap, sym}
use Rattle.toml_span_serde.specs.Tasks.{piece_content, piece_of}
use Rattle.toml_span_serde.proofs.reader.ReaderFormat.next_key.Goals as goal

pub returns-in_ok-note_key-in-Key-clause-key : goal.returns-in_ok-note_key-in-Key-clause-key
returns-in_ok-note_key-in-Key-clause-key c =
    let piece = piece_of c.in_ok-content.field-0 in
    let next = c.in_ok-content.ensures.next ∙ ap (λ rest. piece ∷ rest) (sym c.note_key.ensures.stays) in
    let here = ap piece_content c.in-Key.is in
    (c.in-Key.key.now, (piece, next, here), (c.find-found.ensures.found, c.find-found.ensures.first, c.find-found.ensures.range))
