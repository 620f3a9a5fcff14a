-- Paths, and what they name.
use Rattle.std.specs.Prelude.{◌≡◌, ℕ, List, [], ◌∷◌, ◌++◌, Bool, true, false, ◌&&◌, ◌==◌, Option, Some, option_and_then}
use Rattle.std.specs.Str.{bytes_eq}
use Rattle.toml_span_tree.specs.Node.{Node}
use Rattle.toml_span_tree.specs.Path.{Step, key, position}
use Rattle.toml_span_tree.specs.Pointer.{position_of}
use Rattle.toml_span_tree.specs.Value.{inner_of}
use Rattle.toml_span_edit.specs.Made.{at_position, child}

-- a path: its segments, which are names of keys, or positions in decimal digits
abbrev pub Path : Type 0
Path = List (List ℕ)

-- the value that the path names
abbrev pub found : Path → Node → Option Node
found [] n = Some n
found (segment ∷ path) n = option_and_then (found path) (child segment (inner_of n))

-- The path consists of the segments `front` and the last segment `name`.
abbrev pub Splits : Path → Path → List ℕ → Type 0
Splits path front name = path ≡ front ++ name ∷ []

-- whether the segment names the step
abbrev pub is_step : List ℕ → Step → Bool
is_step segment (key name) = bytes_eq segment name
is_step segment (position i) = at_position (λ j. j == i) (position_of segment)

-- whether there are as many segments as steps, and each segment names the step at the same index
abbrev pub names_steps : Path → List Step → Bool
names_steps [] [] = true
names_steps (segment ∷ path) (s ∷ steps) = is_step segment s && names_steps path steps
names_steps _ _ = false

-- whether each segment names the step at the same index; there may be more steps
abbrev pub names_first : Path → List Step → Bool
names_first [] steps = true
names_first (segment ∷ path) (s ∷ steps) = is_step segment s && names_first path steps
names_first _ _ = false
