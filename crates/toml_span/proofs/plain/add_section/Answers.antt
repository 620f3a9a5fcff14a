use Rattle.toml_span_lex.proofs.Common.{inr, refl}
use Rattle.toml_span_read.proofs.FaultPlaces.{so_told}
use Rattle.toml_span.proofs.FastFaults.{of-stop, refused-lines}
use Rattle.toml_span.proofs.FinishedRoot.{section-added}
use Rattle.toml_span.proofs.plain.add_section.Goals as goal

pub returns-in-Err-clause-fault : goal.returns-in-Err-clause-fault
returns-in-Err-clause-fault c =
    let stop = c.in-Err.stop in
    let h = c.in-Err.ensures in
    rw c.fault_of.ensures (of-stop _ _ stop (so_told _ _ stop h.header (λ e g. inr (e, g, refl))) h.reads)

pub returns-in-Err-section_table-clause-fault : goal.returns-in-Err-section_table-clause-fault
returns-in-Err-section_table-clause-fault c =
    refused-lines c.args.text.now c.args.limit c.args.at c.in-Ok.header c.in-Err-section_table.fault c.in-Ok.ensures.header c.in-Err-section_table.ensures.fault

pub returns-in-Some-clause-section : goal.returns-in-Some-clause-section
returns-in-Some-clause-section c =
    let h = c.in-Ok.ensures in
    let text = c.args.text.now in
    section-added text c.args.limit c.args.at c.in-Ok.header c.in-Ok-section_table.lines _ _ _ _ c.requires.opens c.as_slice.ensures h.header h.reads.1.on h.borrows c.in-Ok-section_table.ensures.lines c.in_order.ensures c.with_span-value.ensures.kept (λ i tail placed. c.in-Some.ensures text i tail placed)
