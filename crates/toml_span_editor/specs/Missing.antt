-- Keys that are missing, and insertions of them.
use Rattle.std.specs.Prelude.{◌≡◌, ℕ, List, [], ◌∷◌, ◌++◌, map}
use Rattle.toml_span_edit.specs.Edited.{EditsMade}
use Rattle.toml_span_edit.specs.declared.edits.Change.{Change}
use Rattle.toml_span_edit.specs.declared.edits.Change.TheVariants as changes
use Rattle.toml_span_edit.specs.declared.edits.Edit.{Edit}
use Rattle.toml_span_editor.specs.Edits.{ChangesInto}
use Rattle.toml_span_editor.specs.Renaming.{segment_of}
use Rattle.toml_span_lex.specs.declared.span.Span.{Span}
use Rattle.toml_span_tree.specs.Path.{Path}

-- The change sets a value to `value`, or adds it if it is missing.
abbrev pub SetsOrAdds : List ℕ → Change → Type 0
SetsOrAdds value (changes.SetOrAdd new) = new.now ≡ value
SetsOrAdds value _ = ⊥

-- Both texts are documents, and `new` is `text` with `value` at `path` (see `EditMade`).
abbrev pub Adds : List ℕ → List (List ℕ) → List ℕ → List ℕ → Type 0
Adds value path text new =
    (edit : Edit) × SetsOrAdds value edit.change × (map (λ s. s.now) edit.path.now ≡ path)
    × EditsMade (edit ∷ []) text new

-- The edits turn `text` into such a text.
abbrev pub AddsBy : List ℕ → List (List ℕ) → List ℕ → List (Span × List ℕ) → Type 0
AddsBy value path text edits = (new : List ℕ) × Adds value path text new × ChangesInto text edits new

-- the segments of the path of the key `name` in the table at `path`
abbrev pub segments_to : Path → List ℕ → List (List ℕ)
segments_to path name = map segment_of path ++ name ∷ []
