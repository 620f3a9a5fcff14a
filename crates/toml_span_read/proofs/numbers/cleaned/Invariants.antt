use Rattle.toml_span_lex.proofs.Common.{◌≡◌, ◌++◌, drop, string_bytes}
use Rattle.toml_span_read.specs.Numerals.{cleaned}
use Rattle.toml_span_read.proofs.numbers.cleaned.Given as goal

abbrev pub invariant-loop-byte : goal.invariant-loop-byte
invariant-loop-byte l = string_bytes l.text ++ cleaned (drop l.byte-index l.literal) ≡ cleaned l.literal
