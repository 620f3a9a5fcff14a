use Rattle.toml_span_lex.proofs.Common.{◌≡◌, ◌==◌, drop}
use Rattle.std.specs.List.{list_any}
use Rattle.toml_span_edit.proofs.kept.has_byte.Given as goal

abbrev pub invariant-loop-byte : goal.invariant-loop-byte
invariant-loop-byte l = list_any (λ c. c == l.wanted) l.bytes ≡ list_any (λ c. c == l.wanted) (drop l.byte-index l.bytes)
