use Rattle.toml_span_laws.proofs.WrittenOver.{tree-takes}
use Rattle.toml_span_laws.proofs.again.written_over.Goals as goal

pub returns : goal.returns
returns c = tree-takes
