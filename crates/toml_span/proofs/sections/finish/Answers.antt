use Rattle.toml_span_lex.proofs.Common.{refl}
use Rattle.toml_span.proofs.AssemblyLemmas.{finish-clash, finish-right, finish-tree}
use Rattle.toml_span.proofs.sections.finish.Goals as goal

pub returns-in-Some-clause-assembles : goal.returns-in-Some-clause-assembles
returns-in-Some-clause-assembles c = λ bs assembles. finish-clash bs c.args.length c.args.assembly.root c.in-Some.clash (rw c.in-Some.is at assembles)

pub returns-clause-assembles : goal.returns-clause-assembles
returns-clause-assembles c = λ bs assembles.
    finish-tree bs c.args.length c.in_ok-table.table c.args.assembly.root _ (rw c.in-None.is at assembles) (c.in_ok-table.ensures.finishes c.args.assembly.root refl refl) c.with_span.ensures.view

pub returns-clause-borrows : goal.returns-clause-borrows
returns-clause-borrows c = λ text bs assembles right.
    finish-right text bs _ c.in_ok-table.table c.args.assembly.root _ (rw c.in-None.is at assembles) (c.in_ok-table.ensures.finishes c.args.assembly.root refl refl) c.with_span.ensures.kept (rw c.in-None.is at right)
