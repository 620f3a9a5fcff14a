use Rattle.toml_span_laws.proofs.ThroughValue.{never-through}
use Rattle.toml_span_laws.proofs.parse.clashes.no_dotted_key_through_a_value_is_reported.Goals as goal

pub returns : goal.returns
returns c = never-through
