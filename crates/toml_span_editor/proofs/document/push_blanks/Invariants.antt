use Rattle.toml_span_lex.proofs.Common.{◌≡◌, ◌++◌, map, string_bytes, take}
use Rattle.toml_span_editor.specs.Documents.{blank}
use Rattle.toml_span_editor.proofs.document.push_blanks.Given as goal

abbrev pub invariant-loop-byte : goal.invariant-loop-byte
invariant-loop-byte l = string_bytes l.out ≡ string_bytes l.fn.out ++ map blank (take l.byte-index l.left_out)
