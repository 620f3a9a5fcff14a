-- The limit on the depth of values and on the number of parts of a key.
use Rattle.std.specs.Prelude.{ℕ, ◌+◌, ◌≤◌, List, [], ◌∷◌, map, length}
use Rattle.toml_span_read.specs.Data.{ParsedValue, parsed, ParsedInner, scalar, array, inline, ParsedItems, no_items}
use Rattle.toml_span_read.specs.Data.{item, ParsedPairs, no_pairs, pair, ParsedAssignment, parsed_assignment}
use Rattle.toml_span_read.specs.declared.section.Section.{Section}

-- The depth d of this value, and the depth of each value in it, is at most the limit, and so is the number of parts of
-- each key in it. The depth of a value is the number of brackets and braces around it, plus the number of parts of its
-- own key and of the keys around it.
abbrev mutual
  pub Within : ℕ → ℕ → ParsedValue → Type 0
  Within limit d (parsed k span) = (d ≤ limit) × WithinInner limit d k

  pub WithinInner : ℕ → ℕ → ParsedInner → Type 0
  WithinInner limit d (scalar s) = Unit {0}
  WithinInner limit d (array vs) = WithinItems limit (d + 1) vs
  WithinInner limit d (inline ps) = WithinPairs limit (d + 1) ps

  pub WithinItems : ℕ → ℕ → ParsedItems → Type 0
  WithinItems limit d no_items = Unit {0}
  WithinItems limit d (item v vs) = Within limit d v × WithinItems limit d vs

  pub WithinPairs : ℕ → ℕ → ParsedPairs → Type 0
  WithinPairs limit d no_pairs = Unit {0}
  WithinPairs limit d (pair ps v extent rest) =
      (length ps ≤ limit) × Within limit (d + length ps) v × WithinPairs limit d rest

-- The key of the assignment has at most `limit` parts, and its value is within the limit. The assignment is inside d
-- brackets, braces and parts of keys.
abbrev pub WithinAssignment : ℕ → ℕ → ParsedAssignment → Type 0
WithinAssignment limit d e = (length e.parts ≤ limit) × Within limit (d + length e.parts) e.value

abbrev pub WithinAssignments : ℕ → List ParsedAssignment → Type 0
WithinAssignments limit [] = Unit {0}
WithinAssignments limit (e ∷ es) = WithinAssignment limit 0 e × WithinAssignments limit es

-- The header of the section has at most `limit` parts, and its assignments are within the limit.
abbrev pub WithinSection : ℕ → Section → Type 0
WithinSection limit s =
    (length s.header.items ≤ limit) × WithinAssignments limit (map parsed_assignment s.assignments.items)

abbrev pub WithinSections : ℕ → List Section → Type 0
WithinSections limit [] = Unit {0}
WithinSections limit (s ∷ ss) = WithinSection limit s × WithinSections limit ss
