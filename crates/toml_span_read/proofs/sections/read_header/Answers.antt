use Rattle.toml_span_lex.proofs.Common.{inl, inr, refl, Ok, Err}
use Rattle.toml_span_read.proofs.FaultPlaces.{so_told}
use Rattle.toml_span_read.proofs.KeyLemmas.{handed_on}
use Rattle.toml_span_read.proofs.LineRead.{opened}
use Rattle.toml_span_read.proofs.sections.read_header.Goals as goal

pub returns-in_err-close-clause-header : goal.returns-in_err-close-clause-header
returns-in_err-close-clause-header c =
    rw (handed_on c.from_residual-in_err-close.result c.in_err-close.field-0.0 c.from_residual-in_err-close.ensures.1)
    (so_told _ _ c.in_err-close.field-0.0 c.in_err-close.ensures.closes
    (λ e (k, blank, h). opened _ _ _ _ _ (Err e) c.header_open-array.ensures.opens (_, c.blanks_end.ensures.run, inl (_, c.in_ok-parts.ensures.key, (k, blank, inr (e, h, refl))))))

pub returns-in_err-end-clause-header : goal.returns-in_err-end-clause-header
returns-in_err-end-clause-header c =
    let (k, blank, shut) = c.in_ok-close.ensures.closes in
    rw (handed_on c.from_residual-in_err-end.result c.in_err-end.field-0.0 c.from_residual-in_err-end.ensures.1)
    (so_told _ _ c.in_err-end.field-0.0 c.in_err-end.ensures.rest
    (λ e h. opened _ _ _ _ _ (Err e) c.header_open-array.ensures.opens (_, c.blanks_end.ensures.run, inl (_, c.in_ok-parts.ensures.key, (k, blank, inl (_, shut, inr (e, h, refl)))))))

pub returns-clause-header : goal.returns-clause-header
returns-clause-header c =
    let (k, blank, shut) = c.in_ok-close.ensures.closes in
    opened _ _ _ _ _ (Ok _) c.header_open-array.ensures.opens (_, c.blanks_end.ensures.run, inl (_, c.in_ok-parts.ensures.key, (k, blank, inl (_, shut, inl (_, c.in_ok-end.ensures.rest, refl)))))
