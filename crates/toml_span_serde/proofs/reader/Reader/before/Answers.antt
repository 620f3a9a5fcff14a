use Rattle.toml_span_serde.proofs.Parts.{before-is}
use Rattle.toml_span_serde.proofs.reader.Reader.before.Goals as goal

pub returns : goal.returns
returns c = before-is c.args.self.now.pieces c.args.at c.get.result c.unwrap_or.result c.get.ensures.lookup.0 c.unwrap_or.ensures
