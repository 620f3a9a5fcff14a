-- Renames of keys.
use Rattle.std.specs.Prelude.{◌≡◌, ℕ, ◌&&◌, nat_le, if◌then◌else◌, List, [], ◌∷◌, map, Option, Some, None}
use Rattle.std.specs.Prelude.{option_map, string_bytes}
use Rattle.std.specs.Fmt.{decimal}
use Rattle.toml_span_edit.specs.Edited.{EditsMade}
use Rattle.toml_span_edit.specs.declared.edits.Change.{Change}
use Rattle.toml_span_edit.specs.declared.edits.Change.TheVariants as changes
use Rattle.toml_span_edit.specs.declared.edits.Edit.{Edit}
use Rattle.toml_span_editor.specs.Edits.{ChangesInto, edit_content}
use Rattle.toml_span_editor.specs.declared.edits.Rewritten.{Rewritten}
use Rattle.toml_span_lex.specs.declared.span.Span.{Span}
use Rattle.toml_span_places.specs.Keys.{KeyMention, document_keys}
use Rattle.toml_span_read.specs.Data.{ParsedSection}
use Rattle.toml_span_tree.specs.Path.{Step, key, position}

-- the first of the keys that contains the offset `at`, quotes included, or ends there
abbrev pub key_at : ℕ → List KeyMention → Option KeyMention
key_at at [] = None
key_at at (mention ∷ mentions) =
    if nat_le mention.whole.start at && nat_le at mention.whole.end then Some mention else key_at at mentions

-- a step as the segment of a path: a name, or a position in decimal digits
abbrev pub segment_of : Step → List ℕ
segment_of (key name) = name
segment_of (position at) = decimal at

-- the path of the key at the offset `at` of a text with these sections, as segments
abbrev pub path_at : ℕ → List ℕ → List ParsedSection → Option (List (List ℕ))
path_at at text sections =
    option_map (λ mention. map segment_of mention.path) (key_at at (document_keys text sections))

-- the span of that key with its quotes
abbrev pub span_at : ℕ → List ℕ → List ParsedSection → Option Span
span_at at text sections = option_map (λ mention. mention.whole) (key_at at (document_keys text sections))

-- The change renames a key to `name`.
abbrev pub IsRenameTo : List ℕ → Change → Type 0
IsRenameTo name (changes.Rename new) = new.now ≡ name
IsRenameTo name _ = ⊥

-- Both texts are documents, and `new` is `text` with the key at `path` renamed to `name` (see `EditMade`).
abbrev pub Renames : List ℕ → List (List ℕ) → List ℕ → List ℕ → Type 0
Renames name path text new =
    (edit : Edit) × IsRenameTo name edit.change × (map (λ s. s.now) edit.path.now ≡ path)
    × EditsMade (edit ∷ []) text new

-- In `made.text`, the key at the offset `at` of `text` is renamed to `name` (see `path_at`). The edits of `made` turn
-- `text` into `made.text`. `sections` are the sections of `text`.
abbrev pub RenamesBy : ℕ → List ℕ → List ℕ → List ParsedSection → Rewritten → Type 0
RenamesBy at name text sections made =
    ((path : List (List ℕ)) × (path_at at text sections ≡ Some path) × Renames name path text (string_bytes made.text))
    × ChangesInto text (map edit_content made.edits.items) (string_bytes made.text)
