use Rattle.toml_span_read.proofs.ReadSound.{document_sound}
use Rattle.toml_span_laws.proofs.Complete.{document_complete}
use Rattle.toml_span_laws.proofs.lines.documents_are_read.Goals as goal

pub returns : goal.returns
returns c = λ text limit sections. (document_sound sections text limit, document_complete sections text limit)
