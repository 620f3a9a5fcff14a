use Rattle.toml_span_laws.proofs.OneSpelled.{header_unique}
use Rattle.toml_span_laws.proofs.lines.one_header.Goals as goal

pub returns : goal.returns
returns c = header_unique
