-- The grammar of values, lines and the document (TOML 1.1, "Overall Structure", "Key/Value Pair", "Array",
-- "Inline Table", "Table", "Array of Tables").
use Rattle.std.specs.Prelude.{◌≡◌, ℕ, ◌+◌, ◌≤◌, ◌⊎◌, Bool, true, false, ◌==◌, List, [], ◌∷◌, ◌++◌, length, slice_index}
use Rattle.std.specs.Prelude.{slice_range, codes, None}
use Rattle.toml_span_lex.specs.declared.span.Span.{Span}
use Rattle.toml_span_lex.specs.Bytes.{is_keylike, left_bracket, right_bracket, is_blank, MaximalRun, comma, equals}
use Rattle.toml_span_lex.specs.Bytes.{left_brace, right_brace}
use Rattle.toml_span_lex.specs.Strings.{IsString}
use Rattle.toml_span_lex.specs.Tokens.{RunAt}
use Rattle.toml_span_lex.specs.Text.{FirstPlace}
use Rattle.toml_span_tree.specs.Date.{IsDateText}
use Rattle.toml_span_tree.specs.Node.{Scalar, integer, float, boolean, datetime, text as text_scalar}
use Rattle.toml_span_read.specs.Dates.{begins_date, IsCandidate}
use Rattle.toml_span_read.specs.Numbers.{IsNumber}
use Rattle.toml_span_read.specs.Gaps.{MaximalGap, Separator, Closes, Equals, Tail}
use Rattle.toml_span_read.specs.Keys.{SpellsKey}
use Rattle.toml_span_read.specs.Data.{SimpleKey, ParsedValue, parsed, ParsedInner, scalar, ParsedItems, no_items, item}
use Rattle.toml_span_read.specs.Data.{headerless_section, from_to, last_end, ParsedPairs, no_pairs, pair}
use Rattle.toml_span_read.specs.Data.{ParsedAssignment, array as array_node, inline as inline_node, ParsedSection}
use Rattle.toml_span_read.specs.Earlier.{crossing}

-- ---- values

-- the text of a boolean: `boolean = true / false`
abbrev pub truth_text : Bool → List ℕ
truth_text true = codes "true"
truth_text false = codes "false"

-- The text from i to j is this string, number, boolean, date or time, with this span. The span of a string is that of
-- its content or, if it is an empty single-line string, that of its opening quote. A number is read only where no date
-- or time begins.
--
-- `string = ml-basic-string / basic-string / ml-literal-string / literal-string`, `boolean = true / false`,
-- `date-time = offset-date-time / local-date-time / local-date / local-time`
abbrev pub SpellsScalar : Scalar → Span → List ℕ → ℕ → ℕ → Type 0
SpellsScalar (text_scalar value) span t i j =
    (source : List ℕ) × (multi : Bool) × IsString t i j span source value multi
SpellsScalar (boolean b) span t i j = RunAt is_keylike t i j (truth_text b) × (span ≡ from_to i j)
SpellsScalar (datetime date) span t i j =
    (begins_date t i ≡ true) × IsCandidate t i j × IsDateText date × (date ≡ slice_range t i j) × (span ≡ from_to i j)
SpellsScalar (integer n) span t i j = (begins_date t i ≡ false) × IsNumber (integer n) t i j × (span ≡ from_to i j)
SpellsScalar (float x) span t i j = (begins_date t i ≡ false) × IsNumber (float x) t i j × (span ≡ from_to i j)

-- a relation that says which scalars the text between two offsets spells, with their spans
abbrev pub Scalars : Type 1
Scalars = Scalar → Span → List ℕ → ℕ → ℕ → Type 0

abbrev mutual
  -- The text from i to j spells this value, with its spans. S says which scalars a text spells. The depth d of the
  -- value is the number of brackets, braces and parts of keys around it, including the parts of its own key. It is at
  -- most the limit.
  --
  -- `val = string / boolean / array / inline-table / date-time / float / integer`
  pub SpellsWith : Scalars → ParsedValue → List ℕ → ℕ → ℕ → ℕ → ℕ → Type 0
  SpellsWith S (parsed k span) t limit d i j = (d ≤ limit) × InnerWith S k span t limit d i j

  -- The text from i to j spells this content of a value, whose span is `span` and whose depth is d.
  --
  -- `array = array-open [ array-values ] ws-comment-newline array-close`
  -- `inline-table = inline-table-open [ inline-table-keyvals ] ws-comment-newline inline-table-close`
  pub InnerWith : Scalars → ParsedInner → Span → List ℕ → ℕ → ℕ → ℕ → ℕ → Type 0
  InnerWith S (scalar s) span t limit d i j = S s span t i j
  InnerWith S (array_node vs) span t limit d i j =
      (slice_index t i ≡ left_bracket) × (span ≡ from_to i j) × (k : ℕ) × MaximalGap t (i + 1) k
      × ItemsWith S vs t limit (d + 1) k j
  InnerWith S (inline_node ps) span t limit d i j =
      (slice_index t i ≡ left_brace) × (span ≡ from_to i j) × (k : ℕ) × MaximalGap t (i + 1) k
      × PairsWith S ps [] t limit (d + 1) k j

  -- From i to j there are these values, separated by commas, an optional trailing comma, and the closing bracket.
  --
  -- `array-values = ws-comment-newline val ws-comment-newline array-sep array-values`
  -- `array-values =/ ws-comment-newline val ws-comment-newline [ array-sep ]`
  pub ItemsWith : Scalars → ParsedItems → List ℕ → ℕ → ℕ → ℕ → ℕ → Type 0
  ItemsWith S no_items t limit d i j = (slice_index t i ≡ right_bracket) × (j ≡ i + 1)
  ItemsWith S (item v vs) t limit d i j =
      (m : ℕ) × SpellsWith S v t limit d i m
      × (((vs ≡ no_items) × Closes right_bracket t m j)
      ⊎ ((p : ℕ) × Separator comma t m p × ItemsWith S vs t limit d p j))

  -- From i to j there are these pairs, separated by commas, an optional trailing comma, and the closing brace. The
  -- pairs of `es` come before them. Each key has at most `limit` parts, and does not go through the value of an earlier
  -- pair. Unlike in the standard's `keyval = key keyval-sep val`, where `keyval-sep = ws %x3D ws`, line ends and
  -- comments are allowed around the equals sign. The extent of a pair is from its key to the end of its value.
  --
  -- `inline-table-keyvals = ws-comment-newline keyval ws-comment-newline inline-table-sep inline-table-keyvals`
  -- `inline-table-keyvals =/ ws-comment-newline keyval ws-comment-newline [ inline-table-sep ]`
  pub PairsWith : Scalars → ParsedPairs → List ParsedAssignment → List ℕ → ℕ → ℕ → ℕ → ℕ → Type 0
  PairsWith S no_pairs es t limit d i j = (slice_index t i ≡ right_brace) × (j ≡ i + 1)
  PairsWith S (pair ss v extent ps) es t limit d i j =
      (m : ℕ)
      × ((a b : ℕ) × SpellsKey ss t i a × (length ss ≤ limit) × Separator equals t a b
      × SpellsWith S v t limit (d + length ss) b m × (extent ≡ from_to i m))
      × (crossing es (record { parts = ss; value = v; extent = extent }) ≡ None)
      × (((ps ≡ no_pairs) × Closes right_brace t m j)
      ⊎ ((p : ℕ) × Separator comma t m p
      × PairsWith S ps (es ++ (record { parts = ss; value = v; extent = extent } ∷ [])) t limit d p j))

-- `SpellsWith` with the scalars of TOML, which include dates and times
abbrev pub Spells : ParsedValue → List ℕ → ℕ → ℕ → ℕ → ℕ → Type 0
Spells = SpellsWith SpellsScalar

-- ---- assignments

-- The text from i to j is this assignment: `keyval = key keyval-sep val`.
pub record AssignmentWith (S : Scalars) (ev : ParsedAssignment) (text : List ℕ) (limit i j : ℕ) : Type 0 where
  pub key_end : ℕ
  pub from : ℕ
  pub key : SpellsKey ev.parts text i key_end
  pub few : length ev.parts ≤ limit
  pub sign : Equals text key_end from
  pub spelled : SpellsWith S ev.value text limit (length ev.parts) from j
  pub extent : ev.extent ≡ record { start = i; end = j }

-- From i to j there are these assignments, each with the rest of its line and the gap after that line. The assignments
-- `earlier` come before them in the section. No key goes through an earlier value of the section.
--
-- `expression =/ ws keyval ws [ comment ]`
abbrev pub AssignmentsWith : Scalars → List ParsedAssignment → List ParsedAssignment → List ℕ → ℕ → ℕ → ℕ → Type 0
AssignmentsWith S [] earlier text limit i j = j ≡ i
AssignmentsWith S (ev ∷ evs) earlier text limit i j =
    (m n k : ℕ) × AssignmentWith S ev text limit i m × Tail text m n × (crossing earlier ev ≡ None)
    × MaximalGap text n k × AssignmentsWith S evs (earlier ++ (ev ∷ [])) text limit k j

-- From i to j there is a gap, then these assignments.
abbrev pub LinesWith : Scalars → List ParsedAssignment → List ℕ → ℕ → ℕ → ℕ → Type 0
LinesWith S evs text limit i j = (k : ℕ) × MaximalGap text i k × AssignmentsWith S evs [] text limit k j

-- `LinesWith` with the scalars of TOML, which include dates and times
abbrev pub SpellsLines : List ParsedAssignment → List ℕ → ℕ → ℕ → ℕ → Type 0
SpellsLines = LinesWith SpellsScalar

-- ---- headers

-- The text from i to j is the opening bracket of a header, not followed by another bracket, or the two opening
-- brackets. The white space after them is part of `HeaderFront`.
--
-- `std-table-open = %x5B ws`, `array-table-open = %x5B.5B ws`
abbrev pub OpensHeader : Bool → List ℕ → ℕ → ℕ → Type 0
OpensHeader false text i j =
    (slice_index text i ≡ left_bracket) × ((slice_index text (i + 1) == left_bracket) ≡ false) × (j ≡ i + 1)
OpensHeader true text i j =
    (slice_index text i ≡ left_bracket) × (slice_index text (i + 1) ≡ left_bracket) × (j ≡ i + 2)

-- The text from i to j is the closing bracket of a header, or the two closing brackets, without the white space before
-- them.
--
-- `std-table-close = ws %x5D`, `array-table-close = ws %x5D.5D`
abbrev pub ClosesHeader : Bool → List ℕ → ℕ → ℕ → Type 0
ClosesHeader false text i j = (slice_index text i ≡ right_bracket) × (j ≡ i + 1)
ClosesHeader true text i j =
    (slice_index text i ≡ right_bracket) × (slice_index text (i + 1) ≡ right_bracket) × (j ≡ i + 2)

-- The text from i to j is a header without its closing brackets: the opening brackets and the key, each with the spaces
-- and tabs after it.
pub record HeaderFront (parts : List SimpleKey) (array : Bool) (text : List ℕ) (limit i j : ℕ) : Type 0 where
  pub inside : ℕ
  pub start : ℕ
  pub end : ℕ
  pub opens : OpensHeader array text i inside
  pub before : MaximalRun is_blank text inside start
  pub key : SpellsKey parts text start end
  pub few : length parts ≤ limit
  pub after : MaximalRun is_blank text end j

-- The text from i to j is a header with these parts, with the rest of its line.
--
-- `table = std-table / array-table`, `std-table = std-table-open key std-table-close`,
-- `array-table = array-table-open key array-table-close`, `expression =/ ws table ws [ comment ]`
pub record SpellsHeader (parts : List SimpleKey) (array : Bool) (text : List ℕ) (limit i j : ℕ) : Type 0 where
  pub close : ℕ
  pub end : ℕ
  pub front : HeaderFront parts array text limit i close
  pub shuts : ClosesHeader array text close end
  pub rest : Tail text end j

-- ---- sections

-- The text from i to j is this section: a header and its assignments. The header's span includes the rest of its line.
-- The extent ends with the last assignment or, without assignments, with the header's span.
pub record SectionWith (S : Scalars) (b : ParsedSection) (text : List ℕ) (limit i j : ℕ) : Type 0 where
  pub end : ℕ
  pub header : SpellsHeader b.header b.array text limit i end
  pub header_span : b.header_span ≡ record { start = i; end = end }
  pub lines : LinesWith S b.assignments text limit end j
  pub extent : b.extent ≡ record { start = i; end = last_end end b.assignments }

-- From i to the end of the text there are these sections.
abbrev pub SectionsWith : Scalars → List ParsedSection → List ℕ → ℕ → ℕ → Type 0
SectionsWith S [] text limit i = i ≡ length text
SectionsWith S (b ∷ bs) text limit i = (j : ℕ) × SectionWith S b text limit i j × SectionsWith S bs text limit j

-- The text spells these sections: `toml = expression *( newline expression )`. A byte order mark, for which the grammar
-- has no production, may come before them.
pub record DocumentWith (S : Scalars) (bs : List ParsedSection) (text : List ℕ) (limit : ℕ) : Type 0 where
  pub start : ℕ
  pub end : ℕ
  pub first : List ParsedAssignment
  pub rest : List ParsedSection
  pub begins : FirstPlace text start
  pub lines : LinesWith S first text limit start end
  pub sections : SectionsWith S rest text limit end
  pub all : bs ≡ headerless_section first ++ rest

-- `SectionWith` with the scalars of TOML, which include dates and times
abbrev pub SpellsSection : ParsedSection → List ℕ → ℕ → ℕ → ℕ → Type 0
SpellsSection = SectionWith SpellsScalar

abbrev pub SpellsDocument : List ParsedSection → List ℕ → ℕ → Type 0
SpellsDocument = DocumentWith SpellsScalar
