use Rattle.toml_span_check.proofs.Errors.{refused_reading}
use Rattle.toml_span_check.proofs.every.next_fault.Goals as goal

pub returns-clause-fault : goal.returns-clause-fault
returns-clause-fault c =
    let error = c.in_ok-error-in-Err.error in
    (error, refused_reading c.args.copy.now c.in-Err.stop error c.in-Err.ensures.document c.in-Err.ensures.placed c.in_ok-error-in-Err.ensures, c.in_ok-next-in-Err.ensures)
