use Rattle.toml_span_lex.proofs.Common.{◌-◌, length}
use Rattle.toml_span_check.specs.Every.{Finds}
use Rattle.toml_span_check.specs.code.Every.{progress, source_of}
use Rattle.toml_span_check.proofs.every.with_clashes.Given as goal

abbrev pub invariant-clashes : goal.invariant-clashes
invariant-clashes l = Finds (source_of l.text l.reading) (progress l.found)

abbrev pub decreases-clashes : goal.decreases-clashes
decreases-clashes l = 100 - length l.found.places.items
