use Rattle.toml_span_laws.proofs.AscendLaws.{document_starts_increase}
use Rattle.toml_span_laws.proofs.starts.brackets_start_apart.Goals as goal

pub returns : goal.returns
returns c = λ text limit sections h. document_starts_increase sections text limit h
