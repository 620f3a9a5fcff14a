use Rattle.toml_span_lex.proofs.Common.{◌-◌, length}
use Rattle.toml_span_check.specs.Every.{Reads}
use Rattle.toml_span_check.specs.code.Every.{progress, source_of}
use Rattle.toml_span_check.proofs.every.with_faults.Given as goal

abbrev pub invariant-faults : goal.invariant-faults
invariant-faults l = Reads (source_of l.text l.reading) (progress l.found)

abbrev pub decreases-faults : goal.decreases-faults
decreases-faults l = 100 - length l.found.places.items
