use Rattle.toml_span_laws.proofs.Pointed.{pointer-some, pointer-value}
use Rattle.toml_span_laws.proofs.parse.pointers_name_places.Goals as goal

pub returns : goal.returns
returns c = record { some = pointer-some; value = pointer-value }
