-- Conversions of tables and arrays.
use Rattle.std.specs.Prelude.{ℕ, List, map, string_bytes}
use Rattle.toml_span_edit.specs.Converted.{IsConverted}
use Rattle.toml_span_edit.specs.declared.conversions.Conversion.{Conversion}
use Rattle.toml_span_editor.specs.Edits.{ChangesInto, edit_content}
use Rattle.toml_span_editor.specs.declared.edits.Rewritten.{Rewritten}
use Rattle.toml_span_read.specs.Data.{ParsedSection}

-- In `made.text`, the table or array at the offset `at` of `text` is converted as `conversion` says. The tree differs
-- only in spans, and the comments only in their order. The edits of `made` turn `text` into `made.text`. `sections` are
-- the sections of `text`.
abbrev pub ConvertsBy : Conversion → ℕ → List ℕ → List ParsedSection → Rewritten → Type 0
ConvertsBy conversion at text sections made =
    IsConverted conversion at text sections (string_bytes made.text)
    × ChangesInto text (map edit_content made.edits.items) (string_bytes made.text)
