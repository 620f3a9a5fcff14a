use Rattle.toml_span_laws.proofs.AscendLaws.{document_keys_increase}
use Rattle.toml_span_laws.proofs.starts.keys_start_apart.Goals as goal

pub returns : goal.returns
returns c = λ text limit sections h. document_keys_increase sections text limit h
