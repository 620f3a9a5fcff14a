use Rattle.toml_span_tree.specs.Value.{view}
use Rattle.toml_span_places.proofs.SpelledAgain.{value_read}
use Rattle.toml_span_places.proofs.spelled.to_toml.Goals as goal

pub returns-clause-reads : goal.returns-clause-reads
returns-clause-reads c = value_read c.spelled_value.result (view c.args.value.now) c.spelled_value.ensures.held c.spelled_value.ensures.text
