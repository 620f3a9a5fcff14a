use Rattle.toml_span_lex.proofs.Common.{sym, subst}
use Rattle.toml_span.specs.code.Tree.{IsFresh}
use Rattle.toml_span.proofs.Placed.{err-of, gives-err}
use Rattle.toml_span.proofs.scopes.fresh_child.Goals as goal

pub returns-in_err-check_beside_value : goal.returns-in_err-check_beside_value
returns-in_err-check_beside_value c =
    let e = c.in_err-check_beside_value.field-0.0 in
    gives-err c.from_residual.result e _ _ _ _ (err-of c.from_residual.result e _ c.from_residual.ensures.1 (λ y p. p)) (λ t h. h) c.in_err-check_beside_value.ensures

pub returns : goal.returns
returns c = (c.in_ok-check_beside_value.ensures.0, subst IsFresh (sym c.in_ok-child.ensures.ok) c.new.ensures)
