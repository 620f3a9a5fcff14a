use Rattle.toml_span_lex.proofs.Common.{◌≡◌, ◌++◌, take, string_bytes, flat_map}
use Rattle.toml_span_check.specs.Sarif.{uri_byte}
use Rattle.toml_span_check.proofs.sarif.push_path.Given as goal

abbrev pub invariant-loop-byte : goal.invariant-loop-byte
invariant-loop-byte l = string_bytes l.out ≡ string_bytes l.fn.out ++ flat_map uri_byte (take l.byte-index l.path)
