use Rattle.toml_span_lex.proofs.Common.{arith, inl, inr, refl}
use Rattle.toml_span_read.specs.Borrowed.{IsWrittenRight}
use Rattle.toml_span_read.proofs.BorrowLemmas.{all_append}
use Rattle.toml_span_read.proofs.KeyLemmas.{handed_on}
use Rattle.toml_span_read.proofs.FaultPlaces.{so_told}
use Rattle.toml_span_read.proofs.sections.read_section.Goals as goal

pub returns-in_err-header-clause-section : goal.returns-in_err-header-clause-section
returns-in_err-header-clause-section c =
    rw (handed_on c.from_residual.result c.in_err-header.field-0.0 c.from_residual.ensures.1)
    (so_told _ _ c.in_err-header.field-0.0 c.in_err-header.ensures.header (λ e h. inr (e, h, refl)))

pub returns-in_err-after-clause-section : goal.returns-in_err-after-clause-section
returns-in_err-after-clause-section c =
    rw (handed_on c.from_residual-in_err-after.result c.in_err-after.field-0.0 c.from_residual-in_err-after.ensures.1)
    (so_told _ _ c.in_err-after.field-0.0 c.in_err-after.ensures.lines (λ e h. inl (_, c.in_ok-header.ensures.header, inr (e, h, refl))))

pub returns-clause-reads : goal.returns-clause-reads
returns-clause-reads c =
    let h = c.in_ok-header.ensures in
    let r = c.in_ok-after.ensures in (
      rw c.section_of.ensures.written (all_append (IsWrittenRight c.args.text.now) _ _ h.borrows r.borrows),
      record { on = omega (arith, h.reads.1.on, r.read.0); boundary = r.read.1 },
      (r.read.1, r.header),
    )

pub returns-clause-section : goal.returns-clause-section
returns-clause-section c =
    inl (_, c.in_ok-header.ensures.header, inl (_, c.in_ok-after.ensures.lines, rw (c.section_of.ensures.parsed_section, c.in_ok-header.ensures.reads.0) refl))
