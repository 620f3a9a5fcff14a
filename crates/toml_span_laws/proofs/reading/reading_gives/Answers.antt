use Rattle.toml_span_lex.proofs.Common.{[], arith}
use Rattle.toml_span_laws.proofs.SomeReading.{key_sure, value_sure, document_sure}
use Rattle.toml_span_laws.proofs.reading.reading_gives.Goals as goal

pub returns-clause-key : goal.returns-clause-key
returns-clause-key c = λ header limit i b. let (r, h, e) = key_sure header c.args.text.now limit [] i i (c.utf8.text, c.places_are_judged.ensures) (omega arith, b) in (r, h)

pub returns-clause-value : goal.returns-clause-value
returns-clause-value c = λ limit left n i b. let (r, h, e) = value_sure c.args.text.now limit left n i (c.utf8.text, c.places_are_judged.ensures) b in (r, h)

pub returns-clause-document : goal.returns-clause-document
returns-clause-document c = λ limit.
    let (r, h, e) = document_sure c.args.text.now limit c.first_place.result (c.utf8.text, c.places_are_judged.ensures) c.first_place.ensures.place c.first_place.ensures.boundary in (r, h)
