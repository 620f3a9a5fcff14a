use Rattle.std.proofs.Common.{◌≡◌, drop}
use Rattle.std.specs.List.{list_any}
use Rattle.toml_span_check.specs.Quotes.{is_equals}
use Rattle.toml_span_check.proofs.quotes.has_equals.Given as goal

abbrev pub invariant-loop-byte : goal.invariant-loop-byte
invariant-loop-byte l = list_any is_equals l.bytes ≡ list_any is_equals (drop l.byte-index l.bytes)
