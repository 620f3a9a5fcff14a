use Rattle.toml_span_laws.proofs.ReadAgain.{document-again}
use Rattle.toml_span_laws.proofs.parse.brackets_read_again.Goals as goal

pub returns : goal.returns
returns c = λ text limit sections h. document-again sections text limit h
