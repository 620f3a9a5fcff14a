-- Constant tables of texts.
use Rattle.std.specs.Prelude.{ℕ, List, [], ◌∷◌, Option, Some, None, if◌then◌else◌}
use Rattle.std.specs.Str.{bytes_eq}

-- the text in the first entry with this key, or None if no entry has it
unfoldable pub text_in : List (List ℕ × List ℕ) → List ℕ → Option (List ℕ)
text_in [] key = None
text_in (entry ∷ entries) key = if bytes_eq entry.0 key then Some entry.1 else text_in entries key
