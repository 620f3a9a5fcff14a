-- The spans of headers, keys, values and brackets, in the order of the text, and the spans of the contents of strings.
use Rattle.std.specs.Prelude.{◌≡◌, ℕ, ◌≤◌, Bool, List, [], ◌∷◌, ◌++◌, slice_index}
use Rattle.toml_span_lex.specs.declared.span.Span.{Span}
use Rattle.toml_span_lex.specs.Strings.{ContentFrom, IsContent, content_end}
use Rattle.toml_span_read.specs.Data.{ParsedAssignment, ParsedSection, ParsedValue, parsed, ParsedInner, scalar, array}
use Rattle.toml_span_read.specs.Data.{inline, ParsedItems, no_items, item, ParsedPairs, no_pairs, pair, SimpleKey}
use Rattle.toml_span_read.specs.Places.{Ascend, Inside}

-- ---- in the order of the text

-- From i to j there are these assignments, each after the one before it. In each, the parts of the key follow each
-- other, and the value comes after them.
abbrev pub AssignmentsAscend : List ParsedAssignment → ℕ → ℕ → Type 0
AssignmentsAscend [] i j = i ≤ j
AssignmentsAscend (ev ∷ evs) i j =
    (i ≤ ev.extent.start) × (a : ℕ) × Ascend ev.parts ev.extent.start a × Inside ev.value a ev.extent.end
    × AssignmentsAscend evs ev.extent.end j

-- From i to j there are these sections, each after the one before it. In each, the header comes before the assignments.
abbrev pub SectionsAscend : List ParsedSection → ℕ → ℕ → Type 0
SectionsAscend [] i j = i ≤ j
SectionsAscend (b ∷ bs) i j =
    (i ≤ b.header_span.start) × Ascend b.header b.header_span.start b.header_span.end
    × AssignmentsAscend b.assignments b.header_span.end b.extent.end × SectionsAscend bs b.extent.end j

-- ---- the starts of keys

-- the starts of the parts of a key
abbrev pub part_starts : List SimpleKey → List ℕ
part_starts [] = []
part_starts (p ∷ ps) = p.span.start ∷ part_starts ps

-- the starts of the parts of the keys in a value, at any depth, in the order of the text
abbrev mutual
  pub key_starts : ParsedValue → List ℕ
  key_starts (parsed k span) = inner_key_starts k

  pub inner_key_starts : ParsedInner → List ℕ
  inner_key_starts (scalar s) = []
  inner_key_starts (array vs) = item_key_starts vs
  inner_key_starts (inline ps) = pair_key_starts ps

  pub item_key_starts : ParsedItems → List ℕ
  item_key_starts no_items = []
  item_key_starts (item v vs) = key_starts v ++ item_key_starts vs

  pub pair_key_starts : ParsedPairs → List ℕ
  pair_key_starts no_pairs = []
  pair_key_starts (pair ss v extent ps) = part_starts ss ++ (key_starts v ++ pair_key_starts ps)

-- the starts of the parts of the keys of assignments, and of the keys inside their values
abbrev pub assignment_key_starts : List ParsedAssignment → List ℕ
assignment_key_starts [] = []
assignment_key_starts (e ∷ es) = part_starts e.parts ++ (key_starts e.value ++ assignment_key_starts es)

-- the starts of the parts of all headers and keys in sections
abbrev pub section_key_starts : List ParsedSection → List ℕ
section_key_starts [] = []
section_key_starts (b ∷ bs) = part_starts b.header ++ (assignment_key_starts b.assignments ++ section_key_starts bs)

-- ---- the starts of keys and brackets

-- the starts of the arrays, inline tables and parts of keys in a value, and of the value itself if it is an array or
-- inline table
abbrev mutual
  pub starts : ParsedValue → List ℕ
  starts (parsed k span) = inner_starts k span

  pub inner_starts : ParsedInner → Span → List ℕ
  inner_starts (scalar s) span = []
  inner_starts (array vs) span = span.start ∷ item_starts vs
  inner_starts (inline ps) span = span.start ∷ pair_starts ps

  pub item_starts : ParsedItems → List ℕ
  item_starts no_items = []
  item_starts (item v vs) = starts v ++ item_starts vs

  pub pair_starts : ParsedPairs → List ℕ
  pair_starts no_pairs = []
  pair_starts (pair ss v extent ps) = part_starts ss ++ (starts v ++ pair_starts ps)

-- the same starts in assignments: for each assignment those of the parts of its key, and then those in its value
abbrev pub assignment_starts : List ParsedAssignment → List ℕ
assignment_starts [] = []
assignment_starts (e ∷ es) = part_starts e.parts ++ (starts e.value ++ assignment_starts es)

-- the same starts for a header: of its first bracket and of its parts; a section without a header has no such starts
abbrev pub header_starts : List SimpleKey → Span → List ℕ
header_starts [] span = []
header_starts (p ∷ ps) span = span.start ∷ part_starts (p ∷ ps)

-- the same starts in sections: for each section those for its header, and then those in its assignments
abbrev pub section_starts : List ParsedSection → List ℕ
section_starts [] = []
section_starts (b ∷ bs) = header_starts b.header b.header_span ++ (assignment_starts b.assignments ++ section_starts bs)

-- ---- between the quotes of a string

-- The span is everything between the quotes of the string from i to j, except for a line end directly after three
-- opening quotes, and the value is what the text at this span denotes.
pub record CutsContent (text : List ℕ) (i j : ℕ) (span : Span) (value : List ℕ) (multi : Bool) : Type 0 where
  pub begins : ContentFrom multi text i span.start
  pub forward : span.start ≤ span.end
  pub ends : span.end ≡ content_end multi j
  pub stands_for : IsContent (slice_index text i) multi text span.start value span.end j
