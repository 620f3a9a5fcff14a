-- The uses of syntax that TOML 1.0 lacks, in the order of the text: forms that TOML 1.1 added ("Inline Table",
-- "String", "Local Time"), and forms that only this parser accepts: line ends and comments around the `=` of a pair,
-- and the byte order mark.
use Rattle.std.specs.Prelude.{ℕ, zero, suc, ◌+◌, ◌-◌, Bool, true, false, not, ◌==◌, ◌&&◌, ◌||◌, nat_le, nat_lt, is_none}
use Rattle.std.specs.Prelude.{List, [], ◌∷◌, ◌++◌, length, slice_index, if◌then◌else◌, Option, Some, None, unwrap_or}
use Rattle.std.specs.List.{flat_map}
use Rattle.toml_span_lex.specs.Bytes.{backslash, carriage_return, colon, comma, equals, hash, is_blank, line_feed}
use Rattle.toml_span_lex.specs.Bytes.{quotation_mark, small_e, small_x}
use Rattle.toml_span_lex.specs.declared.span.Span.{Span}
use Rattle.toml_span_tree.specs.Node.{Scalar, text as text_node, integer, float, boolean, datetime}
use Rattle.toml_span_read.specs.Data.{SimpleKey, ParsedAssignment, ParsedValue, parsed, ParsedInner, scalar, array}
use Rattle.toml_span_read.specs.Data.{inline, ParsedItems, no_items, item, ParsedPairs, no_pairs, pair, ParsedSection}
use Rattle.toml_span_read.specs.Data.{from_to}
use Rattle.toml_span_places.specs.Keys.{with_quotes}
use Rattle.toml_span_places.specs.Literals.{byte_before}
use Rattle.toml_span_places.specs.Points.{text_start}
use Rattle.toml_span_places.specs.declared.newer.Gap.{Gap}
use Rattle.toml_span_places.specs.declared.newer.Gap.TheVariants.{BeforePair, AtEquals, AfterLast}
use Rattle.toml_span_places.specs.declared.newer.NewerForm.{NewerForm}
use Rattle.toml_span_places.specs.declared.newer.NewerKind.{NewerKind}
use Rattle.toml_span_places.specs.declared.newer.NewerKind.TheVariants as kinds

-- a list of one use, of the kind `kind`, with the span from `start` to `end`
abbrev pub one_form : NewerKind → ℕ → ℕ → List NewerForm
one_form kind start end = record { kind = kind; span = from_to start end } ∷ []

-- ---- strings and keys

-- `escape-seq-char =/ %x65` and `escape-seq-char =/ %x78 2HEXDIG`: the escape whose letter is at the offset `at`, if it
-- is one of these; `is_letter` says whether the byte there is the letter of an escape
abbrev pub escape : List ℕ → Bool → ℕ → List NewerForm
escape text is_letter at =
    if slice_index text at == small_e && is_letter then one_form kinds.EscapeEscape (at - 1) (at + 1)
    else if slice_index text at == small_x && is_letter then one_form kinds.HexEscape (at - 1) (at + 3)
    else []

abbrev pub begins_escape : List ℕ → Bool → ℕ → Bool
begins_escape text is_letter at = not is_letter && slice_index text at == backslash

-- The uses in the given number of bytes from the offset `at` on. `is_letter` says whether the byte at `at` is the
-- letter of an escape.
abbrev pub escapes : List ℕ → Bool → ℕ → ℕ → List NewerForm
escapes text is_letter at zero = []
escapes text is_letter at (suc n) =
    escape text is_letter at ++ escapes text (begins_escape text is_letter at) (at + 1) n

-- The uses in the content of a string or key. Only basic strings have escapes; a quotation mark follows their content.
abbrev pub string_forms : List ℕ → Span → List NewerForm
string_forms text span =
    if nat_lt span.end (length text) && slice_index text span.end == quotation_mark
    then escapes text false span.start (span.end - span.start)
    else []

abbrev pub key_forms : List ℕ → List SimpleKey → List NewerForm
key_forms text keys = flat_map (λ key. string_forms text key.span) keys

-- ---- dates and times

-- `partial-time = time-hour ":" time-minute [ ":" time-second [ time-secfrac ] ]`: the offset at which it begins in
-- `date`: 0 if it is alone, otherwise 11, after the date
abbrev pub time_start : List ℕ → ℕ
time_start date = if slice_index date 2 == colon then 0 else 11

-- The use of `time-hour ":" time-minute` without a colon after it. `date` is the text of a date or time, and `span` its
-- span.
abbrev pub date_forms : List ℕ → Span → List NewerForm
date_forms date span =
    let from = time_start date in
    if nat_le (length date) from || slice_index date (from + 5) == colon then []
    else one_form kinds.NoSeconds (span.end - (length date - from)) (span.end - (length date - (from + 5)))

-- ---- gaps in inline tables

-- the start of a `newline = %x0A / %x0D.0A`, given the offset of %x0A
abbrev pub line_end_start : List ℕ → ℕ → ℕ
line_end_start text at = if byte_before text at 1 == carriage_return then at - 1 else at

abbrev pub line_end_kind : Gap → NewerKind
line_end_kind AtEquals = kinds.LineEndAtEquals
line_end_kind BeforePair = kinds.LineEnd
line_end_kind AfterLast = kinds.LineEnd

abbrev pub comment_kind : Gap → NewerKind
comment_kind AtEquals = kinds.CommentAtEquals
comment_kind BeforePair = kinds.Comment
comment_kind AfterLast = kinds.Comment

-- the comment that begins at `start`, up to the offset `end`; none without a start
abbrev pub comment_form : Gap → Option ℕ → ℕ → List NewerForm
comment_form gap None end = []
comment_form gap (Some start) end = one_form (comment_kind gap) start end

-- `[ comment ] newline` of a `ws-comment-newline`: the comment that begins at `comment`, if that is not None, and the
-- newline whose %x0A is at the offset `at`
abbrev pub line_end : List ℕ → Gap → Option ℕ → ℕ → List NewerForm
line_end text gap comment at =
    comment_form gap comment (line_end_start text at)
    ++ one_form (line_end_kind gap) (line_end_start text at) (at + 1)

abbrev pub is_after_last : Gap → Bool
is_after_last BeforePair = false
is_after_last AtEquals = false
is_after_last AfterLast = true

-- the uses that end with the byte at the offset `at`; `comment` is the start of the comment that this byte continues or
-- ends, if there is one
abbrev pub byte_forms : List ℕ → Gap → Option ℕ → ℕ → List NewerForm
byte_forms text gap comment at =
    if slice_index text at == line_feed then line_end text gap comment at
    else if slice_index text at == comma && (is_after_last gap && is_none comment)
    then one_form kinds.TrailingComma at (at + 1)
    else []

-- the start of the comment that the byte after the offset `at` continues or ends, if there is one; `comment` is the
-- same for the byte at `at`
abbrev pub next_comment : List ℕ → Option ℕ → ℕ → Option ℕ
next_comment text comment at =
    if slice_index text at == line_feed then None
    else if slice_index text at == hash then Some (unwrap_or comment at)
    else comment

-- whether a byte may occur in a gap, outside comments; a gap lies between a key, value or brace and the next one
abbrev pub is_between : ℕ → Bool
is_between c =
    is_blank c || (c == line_feed || c == carriage_return || c == hash || c == comma || c == equals)

abbrev pub ends_gap : List ℕ → Option ℕ → ℕ → Bool
ends_gap text comment at = is_none comment && not (is_between (slice_index text at))

-- the uses in the given number of bytes from the offset `at` on, up to the first byte of a key, a value or a brace
abbrev pub gap_from : List ℕ → Gap → Option ℕ → ℕ → ℕ → List NewerForm
gap_from text gap comment at zero = []
gap_from text gap comment at (suc n) =
    if ends_gap text comment at then []
    else byte_forms text gap comment at ++ gap_from text gap (next_comment text comment at) (at + 1) n

abbrev pub gap_forms : List ℕ → Gap → ℕ → List NewerForm
gap_forms text gap from = gap_from text gap None from (length text - from)

-- ---- values

abbrev pub scalar_forms : List ℕ → Span → Scalar → List NewerForm
scalar_forms text span (text_node s) = string_forms text span
scalar_forms text span (integer z) = []
scalar_forms text span (float x) = []
scalar_forms text span (boolean b) = []
scalar_forms text span (datetime d) = date_forms d span

-- the offset after the last of these keys, quotes included, or `end` for an empty list
abbrev pub keys_end : List ℕ → ℕ → List SimpleKey → ℕ
keys_end text end [] = end
keys_end text end (key ∷ keys) = keys_end text (with_quotes text key.span).end keys

-- the kind of the gap after a pair, given the pairs after it
abbrev pub gap_after_pair : ParsedPairs → Gap
gap_after_pair no_pairs = AfterLast
gap_after_pair (pair keys v extent ps) = BeforePair

abbrev mutual
  pub value_forms : List ℕ → ParsedValue → List NewerForm
  value_forms text (parsed i span) = inner_forms text span i

  pub inner_forms : List ℕ → Span → ParsedInner → List NewerForm
  inner_forms text span (scalar s) = scalar_forms text span s
  inner_forms text span (array vs) = items_forms text vs
  inner_forms text span (inline ps) = gap_forms text BeforePair (span.start + 1) ++ pairs_forms text ps

  pub items_forms : List ℕ → ParsedItems → List NewerForm
  items_forms text no_items = []
  items_forms text (item v vs) = value_forms text v ++ items_forms text vs

  -- for each pair, the uses in its key, in the gap around its `=`, in its value, and in the gap after it
  pub pairs_forms : List ℕ → ParsedPairs → List NewerForm
  pairs_forms text no_pairs = []
  pairs_forms text (pair keys v extent ps) =
      (((key_forms text keys ++ gap_forms text AtEquals (keys_end text 0 keys)) ++ value_forms text v)
      ++ gap_forms text (gap_after_pair ps) extent.end)
      ++ pairs_forms text ps

-- the kind of the gap after the pair at a position, given the number of pairs
abbrev pub gap_after : ℕ → ℕ → Gap
gap_after position count = if position + 1 == count then AfterLast else BeforePair

-- the uses in a pair, and in the gap after it, which is of the kind `after`
abbrev pub pair_forms : List ℕ → ParsedAssignment → Gap → List NewerForm
pair_forms text e after =
    ((key_forms text e.parts ++ gap_forms text AtEquals (keys_end text 0 e.parts)) ++ value_forms text e.value)
    ++ gap_forms text after e.extent.end

-- ---- the document

abbrev pub assignments_forms : List ℕ → List ParsedAssignment → List NewerForm
assignments_forms text pairs = flat_map (λ e. key_forms text e.parts ++ value_forms text e.value) pairs

abbrev pub section_forms : List ℕ → ParsedSection → List NewerForm
section_forms text b = key_forms text b.header ++ assignments_forms text b.assignments

abbrev pub mark_forms : List ℕ → List NewerForm
mark_forms text = if text_start text == 0 then [] else one_form kinds.ByteOrderMark 0 (text_start text)

-- all uses in the text, whose sections are `bs`
abbrev pub newer_forms : List ℕ → List ParsedSection → List NewerForm
newer_forms text bs = mark_forms text ++ flat_map (section_forms text) bs
