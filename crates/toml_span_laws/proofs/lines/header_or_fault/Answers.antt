use Rattle.toml_span_laws.proofs.OneSpelled.{header_excluded}
use Rattle.toml_span_laws.proofs.lines.header_or_fault.Goals as goal

pub returns : goal.returns
returns c = header_excluded
