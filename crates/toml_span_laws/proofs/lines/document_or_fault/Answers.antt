use Rattle.toml_span_laws.proofs.OneSpelled.{document_excluded}
use Rattle.toml_span_laws.proofs.lines.document_or_fault.Goals as goal

pub returns : goal.returns
returns c = document_excluded
