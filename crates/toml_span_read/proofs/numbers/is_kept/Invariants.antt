use Rattle.toml_span_lex.proofs.Common.{◌≡◌, drop}
use Rattle.toml_span_read.specs.Numerals.{cleaned}
use Rattle.toml_span_read.proofs.numbers.is_kept.Given as goal

abbrev pub invariant-loop-byte : goal.invariant-loop-byte
invariant-loop-byte l = cleaned (drop l.byte-index l.literal) ≡ drop l.byte-index l.literal → cleaned l.literal ≡ l.literal
