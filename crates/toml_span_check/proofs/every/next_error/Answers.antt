use Rattle.toml_span_check.proofs.Errors.{refused}
use Rattle.toml_span_check.proofs.every.next_error.Goals as goal

pub returns : goal.returns
returns c =
    let error = c.in_ok-error-in-Err.error in
    (error, refused c.args.copy.now c.in-Err.stop error c.in-Err.ensures.answers c.in_ok-error-in-Err.ensures, c.in_ok-next-in-Err.ensures)
