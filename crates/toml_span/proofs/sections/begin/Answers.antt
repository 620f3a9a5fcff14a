use Rattle.toml_span_lex.proofs.Common.{[]}
use Rattle.toml_span.proofs.sections.begin.Goals as goal

pub returns-in_ok-add_section-in-Some-clause-assembles : goal.returns-in_ok-add_section-in-Some-clause-assembles
returns-in_ok-add_section-in-Some-clause-assembles c = λ headed.
    rw c.in-Some.is (c.in_ok-add_section-in-Some.ensures.assembles [] (rw c.in-Some.is at headed) c.new-assembly.ensures.assembles)

pub returns-in_ok-add_section-in-Some-clause-borrows : goal.returns-in_ok-add_section-in-Some-clause-borrows
returns-in_ok-add_section-in-Some-clause-borrows c = λ text right. c.in_ok-add_section-in-Some.ensures.borrows text (rw c.in-Some.is at right) (c.new-assembly.ensures.borrows text)

pub returns-in-None-clause-borrows : goal.returns-in-None-clause-borrows
returns-in-None-clause-borrows c = λ text right. c.new-assembly.ensures.borrows text
