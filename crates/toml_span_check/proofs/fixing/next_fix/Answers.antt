use Rattle.toml_span_check.proofs.Errors.{refused}
use Rattle.toml_span_check.proofs.Fixings.{next_none, next_some}
use Rattle.toml_span_check.proofs.fixing.next_fix.Goals as goal

pub returns-in-Some : goal.returns-in-Some
returns-in-Some c =
    let error = c.in_ok-error-in-Err.error in
    next_some c.args.statement.now c.args.way error c.in_ok-new-in-Err.new c.in-Some.new
    (refused c.args.statement.now c.in-Err.stop error c.in-Err.ensures.answers c.in_ok-error-in-Err.ensures)
    c.in_ok-new-in-Err.ensures c.in-Some.is

pub returns : goal.returns
returns c =
    let error = c.in_ok-error-in-Err.error in
    next_none c.args.statement.now c.args.way error c.in_ok-new-in-Err.new
    (refused c.args.statement.now c.in-Err.stop error c.in-Err.ensures.answers c.in_ok-error-in-Err.ensures)
    c.in_ok-new-in-Err.ensures c.in-None.is
