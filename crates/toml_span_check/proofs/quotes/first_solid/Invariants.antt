use Rattle.std.proofs.Common.{◌≡◌, drop}
use Rattle.toml_span_check.specs.Quotes.{first_solid}
use Rattle.toml_span_check.proofs.quotes.first_solid.Given as goal

abbrev pub invariant-loop-byte : goal.invariant-loop-byte
invariant-loop-byte l = first_solid l.bytes ≡ first_solid (drop l.byte-index l.bytes)
