use Rattle.toml_span_laws.proofs.OneScope.{no-passage}
use Rattle.toml_span_laws.proofs.parse.clashes.no_header_through_an_element_decides.Goals as goal

pub returns : goal.returns
returns c = no-passage
