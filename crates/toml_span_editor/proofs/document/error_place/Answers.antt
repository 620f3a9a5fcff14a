use Rattle.toml_span_lex.proofs.Common.{refl}
use Rattle.toml_span_check.proofs.Errors.{refused}
use Rattle.toml_span_editor.proofs.document.error_place.Goals as goal

pub returns-in-Ok : goal.returns-in-Ok
returns-in-Ok c = (c.in-Ok.field-0, c.in-Ok.ensures.answers)

pub returns : goal.returns
returns c =
    let error = c.in_ok-error-in-Err.error in
    (error, refused c.args.text.now c.in-Err.stop error c.in-Err.ensures.answers c.in_ok-error-in-Err.ensures, refl)
