use Rattle.toml_span_laws.proofs.Fields.{ends-ok, ends-faults, ends-memory}
use Rattle.toml_span_laws.proofs.parse.finalize_ends_the_table.Goals as goal

pub returns : goal.returns
returns c = record { ok = ends-ok; faults = ends-faults; memory = ends-memory }
