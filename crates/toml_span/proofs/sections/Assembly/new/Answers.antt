use Rattle.toml_span_lex.proofs.Common.{refl}
use Rattle.toml_span.proofs.Borrowing.{fresh-bare}
use Rattle.toml_span.proofs.AssemblyLemmas.{assembles-none}
use Rattle.toml_span.proofs.sections.Assembly.new.Goals as goal

pub returns-clause-assembles : goal.returns-clause-assembles
returns-clause-assembles c = assembles-none c.new.result c.new.ensures

pub returns-clause-borrows : goal.returns-clause-borrows
returns-clause-borrows c = λ text. rw (fresh-bare c.new.result c.new.ensures) tt

pub returns-clause-bare : goal.returns-clause-bare
returns-clause-bare c = (refl, c.new.ensures.no_tables)
