use Rattle.std.proofs.Common.{◌≡◌, drop}
use Rattle.toml_span_schema.specs.Compiled.{has}
use Rattle.toml_span_schema.proofs.compiled.has.Given as goal

abbrev pub invariant-loop-placed : goal.invariant-loop-placed
invariant-loop-placed l = has (drop l.placed-index l.keywords) l.name ≡ has l.keywords l.name
