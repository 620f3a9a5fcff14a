-- Edits that turn one text into another.
use Rattle.std.specs.Prelude.{◌≡◌, ℕ, List, Some, string_bytes}
use Rattle.toml_span_lex.specs.declared.span.Span.{Span}
use Rattle.toml_span_places.specs.Replace.{replaced}
use Rattle.toml_span_editor.specs.declared.edits.Edit.{Edit}

-- the span and the new text of an edit
abbrev pub edit_content : Edit → Span × List ℕ
edit_content edit = (edit.span, string_bytes edit.text)

-- The edits are in order, do not overlap, and are at character boundaries of the text `old`. Together, they change
-- `old` into `new`.
unfoldable pub ChangesInto : List ℕ → List (Span × List ℕ) → List ℕ → Type 0
ChangesInto old edits new = replaced old edits ≡ Some new
