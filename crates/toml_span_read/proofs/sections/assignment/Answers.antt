use Rattle.toml_span_lex.proofs.Common.{arith, ◌≡◌, ◌+◌, ◌-◌, length, inl, inr, refl, ap, Err}
use Rattle.toml_span_read.specs.Data.{parts}
use Rattle.toml_span_read.specs.code.Values.{value_found}
use Rattle.toml_span_read.proofs.BorrowLemmas.{assignment_right}
use Rattle.toml_span_read.proofs.KeyLemmas.{handed_on, parts_length}
use Rattle.toml_span_read.proofs.FaultPlaces.{so_told}
use Rattle.toml_span_read.proofs.ValueRead.{levels}
use Rattle.toml_span_read.proofs.sections.assignment.Goals as goal

pub returns-in_err-parts-clause-pair : goal.returns-in_err-parts-clause-pair
returns-in_err-parts-clause-pair c =
    rw (handed_on c.from_residual.result c.in_err-parts.field-0.0 c.from_residual.ensures.1)
    (so_told _ _ c.in_err-parts.field-0.0 c.in_err-parts.ensures.key (λ e h. inr (e, h, refl)))

pub returns-in-Err-clause-pair : goal.returns-in-Err-clause-pair
returns-in-Err-clause-pair c =
    so_told _ _ c.wanted.result c.wanted.ensures.fault
    (λ e (s, stands, is). inl (_, c.in_ok-parts.ensures.key, (c.in-Err.here, c.in-Err.ensures.0, inr (c.in-Err.ensures.1, (s, stands, ap (λ y. Err y) is)))))

pub returns-in-Ok-value-clause-pair : goal.returns-in-Ok-value-clause-pair
returns-in-Ok-value-clause-pair c =
    let u : (c.args.limit + 1) - (c.len-depth.result + 1) ≡ (c.args.limit + 1) - length (parts c.in_ok-parts.parts) =
    omega (arith, parts_length c.in_ok-parts.parts.inner.items c.in_ok-parts.parts.last, c.len-depth.ensures) in
    let s = c.in-Ok.ensures.0 in
    let v = levels _ _ _ _ _ _ (rw u at c.in-Ok-value.ensures.value) in
    inl (_, c.in_ok-parts.ensures.key, (s.at, s.before, inl (rw s.here refl, (c.in-Ok.from, s.after, inl (value_found (c.in-Ok-value.value, c.in-Ok-value.end), v, rw c.assigned.ensures.parsed_assignment refl)))))

pub returns-clause-pair : goal.returns-clause-pair
returns-clause-pair c =
    let u : (c.args.limit + 1) - (c.len-depth.result + 1) ≡ (c.args.limit + 1) - length (parts c.in_ok-parts.parts) =
    omega (arith, parts_length c.in_ok-parts.parts.inner.items c.in_ok-parts.parts.last, c.len-depth.ensures) in
    let s = c.in-Ok.ensures.0 in
    so_told _ _ c.in-Err-value.stop c.in-Err-value.ensures.value
    (λ e h. inl (_, c.in_ok-parts.ensures.key, (s.at, s.before, inl (rw s.here refl, (c.in-Ok.from, s.after, inr (e, levels _ _ _ _ _ _ (rw u at h), refl))))))

pub returns-in-Ok-value-clause-borrows : goal.returns-in-Ok-value-clause-borrows
returns-in-Ok-value-clause-borrows c = assignment_right c.args.text.now _ c.in_ok-parts.parts c.in-Ok-value.value c.assigned.ensures.written c.in_ok-parts.ensures.borrows c.in-Ok-value.ensures.borrows
