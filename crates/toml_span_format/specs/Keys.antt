-- The names of the parts of keys.
use Rattle.std.specs.Prelude.{ℕ, List, [], ◌∷◌, map}
use Rattle.std.specs.List.{flat_map}
use Rattle.toml_span_read.specs.Data.{SimpleKey, ParsedSection}

abbrev pub part_names : List SimpleKey → List (List ℕ)
part_names ks = map (λ k. k.name) ks

-- the names of the parts of each key in a section
abbrev pub section_keys : ParsedSection → List (List (List ℕ))
section_keys b = map (λ p. part_names p.parts) b.assignments

-- the names of the parts of each key in some sections, in order, after an empty list, so that their numbers begin with 1
abbrev pub keys : List ParsedSection → List (List (List ℕ))
keys bs = [] ∷ flat_map section_keys bs
