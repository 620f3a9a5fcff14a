-- The text of a value in one document, read again in another.
use Rattle.std.specs.Prelude.{◌≡◌, ℕ, ◌+◌, ◌-◌, ◌≤◌, true, List, [], ◌∷◌, ◌++◌, take, drop, length, map, slice_range}
use Rattle.std.specs.Prelude.{codes}
use Rattle.toml_span_lex.specs.declared.span.Span.{Span}
use Rattle.toml_span_tree.specs.Node.{Scalar, text, integer, float, boolean, datetime, Node}
use Rattle.toml_span_read.specs.Data.{SimpleKey, ParsedValue, parsed, ParsedInner, scalar, array, inline, ParsedItems}
use Rattle.toml_span_read.specs.Data.{no_items, headerless_section, item, ParsedPairs, no_pairs, pair, ParsedAssignment}
use Rattle.toml_span_read.specs.Data.{parsed_span, ParsedSection}
use Rattle.toml_span_read.specs.Earlier.{part_names}
use Rattle.toml_span_tree.specs.Value.{is_whole}
use Rattle.toml_span_read.specs.Grammar.{Spells, SpellsScalar, SpellsDocument}
use Rattle.toml_span_read.specs.Again.{HasFloatTexts, HasValue, IsWithin, ReadsAsValue, may_follow}

-- a span, moved by the distance between `from` and `to`
abbrev pub moved_span : ℕ → ℕ → Span → Span
moved_span from to span = record { start = (span.start + to) - from; end = (span.end + to) - from }

abbrev pub moved_parts : ℕ → ℕ → List SimpleKey → List SimpleKey
moved_parts from to parts = map (λ p. record { name = p.name; span = moved_span from to p.span }) parts

-- the same value, with its span and all spans inside it moved
abbrev mutual
  pub moved : ℕ → ℕ → ParsedValue → ParsedValue
  moved from to (parsed k span) = parsed (moved_inner from to k) (moved_span from to span)

  pub moved_inner : ℕ → ℕ → ParsedInner → ParsedInner
  moved_inner from to (scalar s) = scalar s
  moved_inner from to (array vs) = array (moved_items from to vs)
  moved_inner from to (inline ps) = inline (moved_pairs from to ps)

  pub moved_items : ℕ → ℕ → ParsedItems → ParsedItems
  moved_items from to no_items = no_items
  moved_items from to (item v vs) = item (moved from to v) (moved_items from to vs)

  pub moved_pairs : ℕ → ℕ → ParsedPairs → ParsedPairs
  moved_pairs from to no_pairs = no_pairs
  moved_pairs from to (pair parts v extent ps) =
      pair (moved_parts from to parts) (moved from to v) (moved_span from to extent) (moved_pairs from to ps)

-- a document of one assignment: `x = `, and then the text from i to j
abbrev pub assigned_again : List ℕ → ℕ → ℕ → List ℕ
assigned_again t i j = codes "x = " ++ slice_range t i j

-- The assignment in `assigned_again`: its key is x, its value is the one from i to j, moved to the offset 4, and its
-- extent is the whole text.
abbrev pub assignment_again : ParsedValue → ℕ → ℕ → ParsedAssignment
assignment_again v i j =
    record {
      parts = record { name = codes "x"; span = record { start = 0; end = 1 } } ∷ [];
      value = moved i 4 v;
      extent = record { start = 0; end = (j + 4) - i };
    }

-- The text from i to j spells the value again: `x = ` followed by this text is a document whose only assignment is
-- `assignment_again`.
abbrev pub SpellsAgain : ParsedValue → List ℕ → ℕ → ℕ → ℕ → Type 0
SpellsAgain v t limit i j =
    SpellsDocument (headerless_section (assignment_again v i j ∷ [])) (assigned_again t i j) limit

-- The text at the span of the value spells the value again.
abbrev pub ReadsAgain : List ℕ → ℕ → ParsedValue → Type 0
ReadsAgain t limit v = SpellsAgain v t limit (parsed_span v).start (parsed_span v).end

-- The text at the span of the scalar spells the scalar again. For a string, nothing is claimed, because its span
-- excludes the quotes.
abbrev pub ScalarReadsAgain : List ℕ → ℕ → Scalar → Span → Type 0
ScalarReadsAgain t limit (text value) span = Unit {0}
ScalarReadsAgain t limit (integer n) span = ReadsAgain t limit (parsed (scalar (integer n)) span)
ScalarReadsAgain t limit (float x) span = ReadsAgain t limit (parsed (scalar (float x)) span)
ScalarReadsAgain t limit (boolean b) span = ReadsAgain t limit (parsed (scalar (boolean b)) span)
ScalarReadsAgain t limit (datetime d) span = ReadsAgain t limit (parsed (scalar (datetime d)) span)

-- The text at the span of the value spells the value again, unless the value is a string. The same holds for each
-- value in it.
abbrev mutual
  pub AllReadAgain : List ℕ → ℕ → ParsedValue → Type 0
  AllReadAgain t limit (parsed k span) = InnerReadAgain t limit k span

  pub InnerReadAgain : List ℕ → ℕ → ParsedInner → Span → Type 0
  InnerReadAgain t limit (scalar s) span = ScalarReadsAgain t limit s span
  InnerReadAgain t limit (array vs) span = ReadsAgain t limit (parsed (array vs) span) × ItemsReadAgain t limit vs
  InnerReadAgain t limit (inline ps) span = ReadsAgain t limit (parsed (inline ps) span) × PairsReadAgain t limit ps

  pub ItemsReadAgain : List ℕ → ℕ → ParsedItems → Type 0
  ItemsReadAgain t limit no_items = Unit {0}
  ItemsReadAgain t limit (item v vs) = AllReadAgain t limit v × ItemsReadAgain t limit vs

  pub PairsReadAgain : List ℕ → ℕ → ParsedPairs → Type 0
  PairsReadAgain t limit no_pairs = Unit {0}
  PairsReadAgain t limit (pair parts v extent ps) = AllReadAgain t limit v × PairsReadAgain t limit ps

-- `AllReadAgain` holds for the value of each assignment; `SectionsReadAgain` says the same for sections.
abbrev pub AssignmentsReadAgain : List ℕ → ℕ → List ParsedAssignment → Type 0
AssignmentsReadAgain t limit [] = Unit {0}
AssignmentsReadAgain t limit (e ∷ es) = AllReadAgain t limit e.value × AssignmentsReadAgain t limit es

abbrev pub SectionsReadAgain : List ℕ → ℕ → List ParsedSection → Type 0
SectionsReadAgain t limit [] = Unit {0}
SectionsReadAgain t limit (b ∷ bs) = AssignmentsReadAgain t limit b.assignments × SectionsReadAgain t limit bs

-- ---- a value written over a scalar

-- the text with this part in place of the bytes from i to j
abbrev pub with_part : List ℕ → ℕ → ℕ → List ℕ → List ℕ
with_part t i j part = take i t ++ (part ++ drop j t)

-- The text from i to j is this scalar, with this span. If a part that is read as the value n wherever it occurs
-- replaces the scalar, the part is read there as n, from its first byte to its last. `ReadsAsValue` says what n must
-- fulfil. Whatever replaces the scalar, each value that is spelled after it is spelled in the new text too, with its
-- spans moved.
pub record CanBeReplaced (t : List ℕ) (s : Scalar) (span : Span) : Type 0 where
  pub i : ℕ
  pub j : ℕ
  pub spelled : SpellsScalar s span t i j
  pub new : (n : Node) (part : List ℕ) (limit depth : ℕ) → ReadsAsValue n part → is_whole n ≡ true
      → IsWithin limit depth n → HasFloatTexts n
      → (v : ParsedValue) × Spells v (with_part t i j part) limit depth i (i + length part) × HasValue v n
  pub later : (v : ParsedValue) (part : List ℕ) (limit depth k l : ℕ) → j ≤ k → Spells v t limit depth k l
      → Spells (moved j (i + length part) v) (with_part t i j part) limit depth ((k + (i + length part)) - j)
      ((l + (i + length part)) - j)

-- Wherever this part occurs in a text before bytes that do not continue it (`may_follow`), it is this scalar, from its
-- first byte to its last.
abbrev pub ReadsAsScalar : Scalar → List ℕ → Type 0
ReadsAsScalar s part =
    (before after : List ℕ) → may_follow after ≡ true
    → (span : Span)
    × SpellsScalar s span (before ++ (part ++ after)) (length before) (length before + length part)

-- ---- forms that are spelled

-- The text is a document of one assignment. Its key is one part with this name, and its value equals n.
abbrev pub SpellsAssignment : List ℕ → Node → List ℕ → ℕ → Type 0
SpellsAssignment name n t limit =
    (e : ParsedAssignment) × SpellsDocument (headerless_section (e ∷ [])) t limit × (part_names e.parts ≡ name ∷ [])
    × HasValue e.value n
