use Rattle.std.proofs.Common.{◌≡◌, drop}
use Rattle.toml_span_check.specs.Quotes.{last_solid}
use Rattle.toml_span_check.proofs.quotes.last_solid.Given as goal

abbrev pub invariant-loop-byte : goal.invariant-loop-byte
invariant-loop-byte l = last_solid 10 l.bytes ≡ last_solid l.last (drop l.byte-index l.bytes)
