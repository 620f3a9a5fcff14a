use Rattle.std.proofs.Common.{◌≡◌, map}
use Rattle.toml_span_config.specs.Config.{entry}
use Rattle.toml_span_config.specs.Tables.{entries_from}
use Rattle.toml_span_config.proofs.config.entries_of.Given as goal

abbrev pub invariant-loop-table : goal.invariant-loop-table
invariant-loop-table l = map entry l.entries.items ≡ entries_from 0 l.yielded
