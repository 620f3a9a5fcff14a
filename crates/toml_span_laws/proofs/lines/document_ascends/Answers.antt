use Rattle.toml_span_laws.proofs.AscendLaws as proofs
use Rattle.toml_span_laws.proofs.lines.document_ascends.Goals as goal

pub returns : goal.returns
returns c = λ text limit sections h. proofs.document_ascends sections text limit h
