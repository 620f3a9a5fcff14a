use Rattle.toml_span_laws.proofs.Order.{document-ascends}
use Rattle.toml_span_laws.proofs.parse.claims_ascend.Goals as goal

pub returns : goal.returns
returns c = λ text limit sections h. document-ascends sections text limit h
