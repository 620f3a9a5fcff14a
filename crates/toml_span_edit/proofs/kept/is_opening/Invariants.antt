use Rattle.toml_span_lex.proofs.Common.{◌≡◌, drop}
use Rattle.std.specs.List.{list_all}
use Rattle.toml_span_edit.specs.Kept.{is_opening}
use Rattle.toml_span_edit.proofs.kept.is_opening.Given as goal

abbrev pub invariant-loop-byte : goal.invariant-loop-byte
invariant-loop-byte l = list_all is_opening l.bytes ≡ list_all is_opening (drop l.byte-index l.bytes)
