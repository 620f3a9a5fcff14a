-- The output for a text: a line for each place of its flat document, in the order of the paths, or the line of an
-- error.
use Rattle.std.specs.Prelude.{◌≡◌, ◌<◌, ◌↔◌, ◌⊎◌, ⊤, ℕ, List, [], ◌∷◌, length, Option, Some, Ok, codes}
use Rattle.std.specs.List.{flat_map, AllByRecursion}
use Rattle.toml_span_tree.specs.declared.error.Error.{Error}
use Rattle.toml_span_tree.specs.Error.{content_of}
use Rattle.toml_span_tree.specs.Path.{Path, Step, key, position, Shape, shape_taken, shape_scalar, shape_array}
use Rattle.toml_span_tree.specs.Path.{shape_table, Place}
use Rattle.toml_span_tree.specs.Value.{scalar_kind}
use Rattle.toml_span_read.specs.Data.{ParsedSection}
use Rattle.toml_span_read.specs.Read.{document}
use Rattle.toml_span.specs.Claims.{claims}
use Rattle.toml_span.specs.Clashes.{Resolves}
use Rattle.toml_span.specs.Flat.{flat}
use Rattle.toml_span.specs.Ordered.{IsNameBefore}
use Rattle.toml_span_lex.specs.declared.stop.Stop.TheVariants as stops
use Rattle.toml_span.specs.Parsing.{IsRefusal}
use Rattle.toml_span_lines.specs.Lines.{key_segment, position_segment, line, error_line}

-- ---- the order of paths

-- whether a step comes before another: keys are in the order of their bytes, positions in numeric order, and a key and
-- a position have no order
abbrev pub IsStepBefore : Step → Step → Type 0
IsStepBefore (key name) (key other) = IsNameBefore name other
IsStepBefore (position i) (position j) = i < j
IsStepBefore (key name) (position j) = ⊥
IsStepBefore (position i) (key other) = ⊥

-- The first steps that differ decide, and a path comes before a longer one that begins with it.
abbrev pub IsPathBefore : Path → Path → Type 0
IsPathBefore p [] = ⊥
IsPathBefore [] (t ∷ q) = ⊤
IsPathBefore (s ∷ p) (t ∷ q) = IsStepBefore s t ⊎ ((s ≡ t) × IsPathBefore p q)

-- ---- places

-- a path and the place there
abbrev pub PlaceAt : Type 0
PlaceAt = Path × Place

abbrev pub IsIn : PlaceAt → List PlaceAt → Type 0
IsIn e [] = ⊥
IsIn e (f ∷ fs) = (e ≡ f) ⊎ IsIn e fs

-- Each path comes before those of all later entries.
abbrev pub PathsAscend : List PlaceAt → Type 0
PathsAscend [] = ⊤
PathsAscend (e ∷ es) = AllByRecursion (λ f. IsPathBefore e.0 f.0) es × PathsAscend es

-- The list has exactly the places that `places` has, each with its path.
abbrev pub HasPlaces : (Path → Option Place) → List PlaceAt → Type 0
HasPlaces places es = (p : Path) (x : Place) → (places p ≡ Some x) ↔ IsIn (p, x) es

-- ---- lines

abbrev pub segment : Step → List ℕ
segment (key name) = key_segment name
segment (position i) = position_segment i

-- the name of a kind of value
abbrev pub shape_name : Shape → List ℕ
shape_name shape_taken = []
shape_name (shape_scalar s) = scalar_kind s
shape_name shape_array = codes "array"
shape_name shape_table = codes "table"

-- the line of a place: its path, its kind and its span
abbrev pub entry_line : PlaceAt → List ℕ
entry_line e = line (flat_map segment e.0) (shape_name e.1.shape) e.1.span.start e.1.span.end

-- The text is a line for each place, in the order of the paths.
abbrev pub ShowsPlaces : (Path → Option Place) → List ℕ → Type 0
ShowsPlaces places text = (es : List PlaceAt) × PathsAscend es × HasPlaces places es × (text ≡ flat_map entry_line es)

-- ---- whole texts

-- The bytes are read, within the limit, as sections that do not clash, and the output shows their flat document.
pub record ShowsDocument (bytes : List ℕ) (limit : ℕ) (text : List ℕ) : Type 0 where
  pub sections : List ParsedSection
  pub read : document bytes limit (Ok sections)
  pub resolves : Resolves (claims sections)
  pub shown : ShowsPlaces (flat (length bytes) (claims sections)) text

-- The bytes have a fault, or are read, within the limit, as sections that clash. The output is the line of that fault,
-- or of the first clash.
abbrev pub ShowsRefusal : List ℕ → ℕ → List ℕ → Type 0
ShowsRefusal bytes limit text =
    (error : Error) × IsRefusal bytes limit (stops.Fault error) × (text ≡ error_line (content_of error))
