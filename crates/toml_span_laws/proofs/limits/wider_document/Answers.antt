use Rattle.toml_span_laws.proofs.WiderDocument.{document_wider}
use Rattle.toml_span_laws.proofs.limits.wider_document.Goals as goal

pub returns : goal.returns
returns c = λ text limit wider sections l h. document_wider sections text limit wider l h
