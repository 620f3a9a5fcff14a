use Rattle.toml_span_lex.proofs.Common.{ap}
use Rattle.toml_span_serde.specs.declared.misfit.Reason.TheVariants as is
use Rattle.toml_span_serde.proofs.reader.ReaderFormat.duplicate.Goals as goal

pub returns-in-Ok : goal.returns-in-Ok
returns-in-Ok c =
    let found = c.duplicate_place-at.ensures in
    ((c.in-Ok.name, ap (λ t. is.DuplicateField c.in-Ok.name t.1) found, c.in-Ok.ensures.ok), ap (λ t. t.0) found)
