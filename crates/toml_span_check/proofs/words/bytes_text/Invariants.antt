use Rattle.toml_span_lex.proofs.Common.{◌≡◌, take, string_bytes, flat_map}
use Rattle.toml_span_check.specs.Words.{word_byte}
use Rattle.toml_span_check.proofs.words.bytes_text.Given as goal

abbrev pub invariant-loop-byte : goal.invariant-loop-byte
invariant-loop-byte l = string_bytes l.text ≡ flat_map word_byte (take l.byte-index l.word)
