use Rattle.toml_span_laws.proofs.ScalarSets.{replace_law, set_law, set_or_add_law}
use Rattle.toml_span_laws.proofs.edits.scalars_are_set.Goals as goal

pub returns : goal.returns
returns c = record { set = set_law; replace = replace_law; set_or_add = set_or_add_law }
