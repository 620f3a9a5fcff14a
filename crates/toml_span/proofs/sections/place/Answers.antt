use Rattle.toml_span.proofs.AssemblyLemmas.{placed-parsed_section}
use Rattle.toml_span.proofs.Borrowing.{section_right}
use Rattle.toml_span.proofs.sections.place.Goals as goal

pub returns-clause-places : goal.returns-clause-places
returns-clause-places c = placed-parsed_section c.args.section _ c.args.root.now c.place_section.new.node c.place_section.result c.as_slice.ensures c.place_section.ensures.places

pub returns-clause-borrows : goal.returns-clause-borrows
returns-clause-borrows c = λ text h.
    let right = section_right text c.args.section h in
    c.place_section.ensures.borrows text (rw c.as_slice.ensures right.0) right.1
