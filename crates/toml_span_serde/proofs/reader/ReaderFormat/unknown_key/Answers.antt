use Rattle.toml_span_lex.proofs.Common.{◌∙◌, ap, map, refl, string_bytes}
use Rattle.toml_span_serde.proofs.reader.ReaderFormat.unknown_key.Goals as goal

pub returns-in-Ok : goal.returns-in-Ok
returns-in-Ok c =
    let told = c.in-Ok.ensures in
    ((c.in-Ok.name, c.in-Ok.expected, refl, told.0, told.1 ∙ ap (map string_bytes) c.as_slice.ensures.value), refl)
