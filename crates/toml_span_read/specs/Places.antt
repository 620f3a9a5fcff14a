-- The spans of keys, headers and values.
use Rattle.std.specs.Prelude.{ℕ, ◌<◌, ◌≤◌, List, [], ◌∷◌, map}
use Rattle.toml_span_lex.specs.declared.span.Span.{Span}
use Rattle.toml_span_read.specs.Data.{SimpleKey, simple_key, ParsedValue, parsed, ParsedInner, scalar, array, inline}
use Rattle.toml_span_read.specs.Data.{ParsedItems, no_items, item, ParsedPairs, no_pairs, pair, ParsedAssignment}
use Rattle.toml_span_read.specs.Data.{parsed_assignment}
use Rattle.toml_span_read.specs.declared.section.Section.{Section}

-- ---- keys and headers are inside the text

-- The span is not reversed, and ends inside the first n bytes.
abbrev pub IsInside : ℕ → Span → Type 0
IsInside n span = (span.start ≤ span.end) × (span.end ≤ n)

-- The span of each part is inside the first n bytes.
abbrev pub PartsInside : ℕ → List SimpleKey → Type 0
PartsInside n [] = Unit {0}
PartsInside n (p ∷ ps) = IsInside n p.span × PartsInside n ps

-- The spans of all keys in the value, at any depth, are inside the first n bytes.
abbrev mutual
  pub KeysInside : ℕ → ParsedValue → Type 0
  KeysInside n (parsed k span) = InnerKeysInside n k

  pub InnerKeysInside : ℕ → ParsedInner → Type 0
  InnerKeysInside n (scalar s) = Unit {0}
  InnerKeysInside n (array vs) = ItemKeysInside n vs
  InnerKeysInside n (inline ps) = PairKeysInside n ps

  pub ItemKeysInside : ℕ → ParsedItems → Type 0
  ItemKeysInside n no_items = Unit {0}
  ItemKeysInside n (item v vs) = KeysInside n v × ItemKeysInside n vs

  pub PairKeysInside : ℕ → ParsedPairs → Type 0
  PairKeysInside n no_pairs = Unit {0}
  PairKeysInside n (pair ps v extent rest) = PartsInside n ps × KeysInside n v × PairKeysInside n rest

-- The spans of all keys in the assignment are inside the first n bytes: those of its own key, and those in its value.
abbrev pub AssignmentInside : ℕ → ParsedAssignment → Type 0
AssignmentInside n e = PartsInside n e.parts × KeysInside n e.value

abbrev pub AssignmentsInside : ℕ → List ParsedAssignment → Type 0
AssignmentsInside n [] = Unit {0}
AssignmentsInside n (e ∷ es) = AssignmentInside n e × AssignmentsInside n es

-- The span of the section's header, and the spans of all keys in the header and in the assignments, are inside the
-- first n bytes.
abbrev pub SectionInside : ℕ → Section → Type 0
SectionInside n s =
    IsInside n s.header_span × PartsInside n (map simple_key s.header.items)
    × AssignmentsInside n (map parsed_assignment s.assignments.items)

abbrev pub SectionsInside : ℕ → List Section → Type 0
SectionsInside n [] = Unit {0}
SectionsInside n (s ∷ ss) = SectionInside n s × SectionsInside n ss

-- ---- in the order of the text

-- The spans of the parts follow one another from i to j. They are not empty and do not overlap.
abbrev pub Ascend : List SimpleKey → ℕ → ℕ → Type 0
Ascend [] i j = i ≤ j
Ascend (p ∷ ps) i j = (i ≤ p.span.start) × (p.span.start < p.span.end) × Ascend ps p.span.end j

abbrev mutual
  -- The span of a value is inside i..j, and the spans of the values and keys in it are inside its own.
  pub Inside : ParsedValue → ℕ → ℕ → Type 0
  Inside (parsed k span) i j =
      (i ≤ span.start) × (span.start ≤ span.end) × (span.end ≤ j) × InsideInner k span.start span.end

  pub InsideInner : ParsedInner → ℕ → ℕ → Type 0
  InsideInner (scalar s) i j = Unit {0}
  InsideInner (array vs) i j = InsideItems vs i j
  InsideInner (inline ps) i j = InsidePairs ps i j

  -- each element follows the one before it
  pub InsideItems : ParsedItems → ℕ → ℕ → Type 0
  InsideItems no_items i j = i ≤ j
  InsideItems (item v vs) i j = (m : ℕ) × Inside v i m × InsideItems vs m j

  -- each pair follows the one before it, and its value follows its key
  pub InsidePairs : ParsedPairs → ℕ → ℕ → Type 0
  InsidePairs no_pairs i j = i ≤ j
  InsidePairs (pair ss v extent ps) i j =
      (a m : ℕ) × Ascend ss i a × Inside v a m × (i ≤ extent.start) × (extent.end ≤ m) × InsidePairs ps m j
