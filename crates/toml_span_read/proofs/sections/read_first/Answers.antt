use Rattle.toml_span_lex.proofs.Common.{inr, refl}
use Rattle.toml_span_read.proofs.FaultPlaces.{so_told}
use Rattle.toml_span_read.proofs.KeyLemmas.{handed_on}
use Rattle.toml_span_read.proofs.StepLemmas.{first_right}
use Rattle.toml_span_read.proofs.sections.read_first.Goals as goal

pub returns-in_err-before-clause-first : goal.returns-in_err-before-clause-first
returns-in_err-before-clause-first c =
    rw (handed_on c.from_residual.result c.in_err-before.field-0.0 c.from_residual.ensures.1)
    (so_told _ _ c.in_err-before.field-0.0 c.in_err-before.ensures.lines (λ e h. (_, c.first_place.ensures.place, inr (e, h, refl))))

pub returns-clause-reads : goal.returns-clause-reads
returns-clause-reads c =
    let r = c.in_ok-before.ensures in
    (first_right c.args.text.now c.first_section.result c.in_ok-before.before.items c.first_section.ensures.written r.borrows, (r.read.1, r.header))
