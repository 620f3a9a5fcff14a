use Rattle.toml_span_lex.proofs.Common.{◌≡◌, drop, list_any}
use Rattle.toml_span_check.specs.Dates.{begins_offset}
use Rattle.toml_span_check.proofs.dates.has_offset.Given as goal

abbrev pub invariant-loop-byte : goal.invariant-loop-byte
invariant-loop-byte l = list_any begins_offset (drop l.byte-index l.bytes) ≡ list_any begins_offset l.bytes
