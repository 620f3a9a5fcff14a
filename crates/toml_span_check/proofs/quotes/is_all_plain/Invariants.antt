use Rattle.std.proofs.Common.{◌≡◌, drop}
use Rattle.std.specs.List.{list_all}
use Rattle.toml_span_check.specs.Quotes.{is_plain}
use Rattle.toml_span_check.proofs.quotes.is_all_plain.Given as goal

abbrev pub invariant-loop-byte : goal.invariant-loop-byte
invariant-loop-byte l = list_all is_plain l.bytes ≡ list_all is_plain (drop l.byte-index l.bytes)
