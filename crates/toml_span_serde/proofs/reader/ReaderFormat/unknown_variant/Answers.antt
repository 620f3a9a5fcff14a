use Rattle.toml_span_lex.proofs.Common.{◌∙◌, ap, refl, slice_get}
use Rattle.toml_span_serde.specs.Ahead.{laid}
use Rattle.toml_span_serde.specs.Misreads.{piece_text_in}
use Rattle.toml_span_serde.proofs.reader.ReaderFormat.unknown_variant.Goals as goal

pub returns-in-Ok : goal.returns-in-Ok
returns-in-Ok c =
    let told = c.in-Ok.ensures in
    let place = c.variant_place-at.ensures in (
      (
        c.in-Ok.name,
        c.in-Ok.expected,
        refl,
        told.0 ∙ ap (λ at. piece_text_in (slice_get (laid c.args.self.now) at)) place,
        told.1 ∙ c.variant_names.ensures,
      ),
      place,
    )
