use Rattle.toml_span_laws.proofs.AgainLaws.{document_spelled}
use Rattle.toml_span_laws.proofs.again.spelled_again.Goals as goal

pub returns : goal.returns
returns c = λ text limit depth i j v deep h. document_spelled v text limit depth i j deep h
