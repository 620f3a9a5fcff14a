use Rattle.toml_span_lex.proofs.Common.{◌≡◌, flat_map, string_bytes, take}
use Rattle.toml_span_editor.specs.Documents.{part_text}
use Rattle.toml_span_editor.proofs.document.joined.Given as goal

abbrev pub invariant-loop-part : goal.invariant-loop-part
invariant-loop-part l = string_bytes l.out ≡ flat_map (part_text l.text) (take l.part-index l.parts)
