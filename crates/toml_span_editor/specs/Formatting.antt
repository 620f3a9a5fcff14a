-- Edits that format a document, or some of its lines.
use Rattle.std.specs.Prelude.{ℕ, List, map, string_bytes}
use Rattle.toml_span_format.specs.Document.{SameDocument, SortedDocument}
use Rattle.toml_span_editor.specs.Edits.{ChangesInto, edit_content}
use Rattle.toml_span_editor.specs.declared.edits.Rewritten.{Rewritten}

-- The edits of `made` turn `text` into `made.text`, which has the same sections, keys and values, and the same tokens
-- and comments, all in the same order.
abbrev pub FormatsBy : List ℕ → Rewritten → Type 0
FormatsBy text made = SameDocument text (string_bytes made.text)
    × ChangesInto text (map edit_content made.edits.items) (string_bytes made.text)

-- The same with sorted keys.
abbrev pub SortsBy : List ℕ → Rewritten → Type 0
SortsBy text made = SortedDocument text (string_bytes made.text)
    × ChangesInto text (map edit_content made.edits.items) (string_bytes made.text)
