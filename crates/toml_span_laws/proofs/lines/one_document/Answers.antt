use Rattle.toml_span_laws.proofs.OneSpelled.{document_unique}
use Rattle.toml_span_laws.proofs.lines.one_document.Goals as goal

pub returns : goal.returns
returns c = document_unique
