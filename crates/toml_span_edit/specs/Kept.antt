-- Which bytes of a text an edit keeps.
use Rattle.std.specs.Prelude.{◌≡◌, ℕ, zero, suc, ◌≤◌, ◌+◌, ◌-◌, ◌⊎◌, Bool, true, false, not, ◌==◌, ◌&&◌, ◌||◌}
use Rattle.std.specs.Prelude.{nat_le, nat_lt}
use Rattle.std.specs.Prelude.{List, [], ◌∷◌, ◌++◌, take, drop, map, slice_index, slice_range, if◌then◌else◌, Option}
use Rattle.std.specs.Prelude.{Some}
use Rattle.std.specs.Prelude.{None, Ok, string_bytes, unwrap_or, option_map}
use Rattle.std.specs.List.{list_all, list_any}
use Rattle.toml_span_lex.specs.Bytes.{is_blank, hash, line_feed, left_brace, left_bracket}
use Rattle.toml_span_lex.specs.declared.span.Span.{Span}
use Rattle.toml_span_tree.specs.Node.{Node, node, Inner, array, table, Items, no_items, item, Members, no_members}
use Rattle.toml_span_tree.specs.Node.{member, entry_at}
use Rattle.toml_span_tree.specs.Value.{inner_of, span_of}
use Rattle.toml_span_read.specs.Data.{ParsedSection, depth_limit}
use Rattle.toml_span_read.specs.Read.{document}
use Rattle.toml_span_places.specs.Keys.{KeyMention, document_keys}
use Rattle.toml_span_places.specs.Lines.{after_line}
use Rattle.toml_span_places.specs.Literals.{literal_span}
use Rattle.toml_span_places.specs.Quoted.{key_text}
use Rattle.toml_span_places.specs.Replace.{SpanEdit as Replacement, replaced}
use Rattle.toml_span_places.specs.Sections.{SectionMention, document_sections}
use Rattle.toml_span_edit.specs.Comments.{AddsNoComment}
use Rattle.toml_span_edit.specs.Made.{child}
use Rattle.toml_span_edit.specs.Paths.{Path, Splits, found, names_first, names_steps}
use Rattle.toml_span_edit.specs.declared.plan.Plan.{Plan}
use Rattle.toml_span_edit.specs.declared.edits.Change.{Change}
use Rattle.toml_span_edit.specs.declared.edits.Change.TheVariants as changes

-- ---- a value written over another one

-- The text `new` is `text` with `value` in place of the literal of the value at the path. All other bytes are the same.
abbrev pub IsWrittenOver : List ℕ → Path → Node → List ℕ → List ℕ → Type 0
IsWrittenOver value path n text new =
    (w : Node) × (found path n ≡ Some w) × (replaced text ((literal_span text w, value) ∷ []) ≡ Some new)

-- ---- a key that is renamed

-- the spans of the keys that name the value at the path, quotes included
abbrev pub keys_at : Path → List KeyMention → List Span
keys_at path [] = []
keys_at path (m ∷ ms) = if names_steps path m.path then m.whole ∷ keys_at path ms else keys_at path ms

-- The text `new` is `text` with the key `name` in place of each key that names the value at the path. The new key is in
-- quotes if necessary. All other bytes are the same.
abbrev pub AreKeysReplaced : List ℕ → Path → List ℕ → List ℕ → Type 0
AreKeysReplaced name path text new =
    (sections : List ParsedSection) × document text depth_limit (Ok sections)
    × (replaced text (map (λ span. (span, key_text name)) (keys_at path (document_keys text sections))) ≡ Some new)

-- One and the same key replaces each key that names the value at the path.
abbrev pub HasOtherKey : Path → List ℕ → List ℕ → Type 0
HasOtherKey path text new = (name : List ℕ) × AreKeysReplaced name path text new

-- ---- what is inserted

-- whether a replacement only inserts text
abbrev pub is_insertion : Replacement → Bool
is_insertion e = e.0.start == e.0.end

-- the replacements of a plan
abbrev pub planned : Plan → List Replacement
planned plan = map (λ p. (p.span, string_bytes p.text)) plan.pieces.items

abbrev pub is_line_end : ℕ → Bool
is_line_end c = c == line_feed || c == 13

-- The plan has one more insertion: of these lines at this offset, after at most a line end.
abbrev pub InsertsLines : ℕ → List ℕ → Plan → Plan → Type 0
InsertsLines at lines old new =
    (gap : List ℕ) × (list_all is_line_end gap ≡ true)
    × (planned new ≡ planned old ++ (record { start = at; end = at }, gap ++ lines) ∷ [])

-- Texts are inserted. All bytes are still there, in order.
abbrev pub IsInserted : List ℕ → List ℕ → Type 0
IsInserted text new = (es : List Replacement) × (list_all is_insertion es ≡ true) × (replaced text es ≡ Some new)

-- Texts are inserted, and each comment that is new is one of the value.
abbrev pub IsAdded : List ℕ → List ℕ → List ℕ → Type 0
IsAdded value text new = IsInserted text new × AddsNoComment value text new

-- ---- what is removed

-- the bytes before the span and after it are the same
abbrev pub KeepsAround : List ℕ → Span → List ℕ → Type 0
KeepsAround text span new = (between : List ℕ) × (new ≡ take span.start text ++ (between ++ drop span.end text))

-- the smallest span that contains both spans
abbrev pub hull : Span → Span → Span
hull a b = record {
  start = if nat_le a.start b.start then a.start else b.start;
  end = if nat_le a.end b.end then b.end else a.end;
}

-- the smallest span that contains the `literal_span` of a value and of each value inside it, and the spans of the keys
-- inside it
abbrev mutual
  pub reach : List ℕ → Node → Span
  reach text (node i span) = inner_reach text (literal_span text (node i span)) i

  pub inner_reach : List ℕ → Span → Inner → Span
  inner_reach text s (array ns) = items_reach text s ns
  inner_reach text s (table ms) = members_reach text s ms
  inner_reach text s _ = s

  pub items_reach : List ℕ → Span → Items → Span
  items_reach text s no_items = s
  items_reach text s (item n ns) = items_reach text (hull s (reach text n)) ns

  pub members_reach : List ℕ → Span → Members → Span
  members_reach text s no_members = s
  members_reach text s (member name key n ms) = members_reach text (hull s (hull key (reach text n))) ms

-- the entry or element that a segment names, with the span of its key if it is an entry
abbrev pub named : List ℕ → Inner → Option (Option Span × Node)
named segment (table ms) = entry_at segment ms
named segment i = option_map (λ m. (None, m)) (child segment i)

abbrev pub with_key : Option Span → Span → Span
with_key None s = s
with_key (Some key) s = hull key s

-- the start of the line that contains an offset
abbrev pub line_start : List ℕ → ℕ → ℕ
line_start text zero = zero
line_start text (suc n) = if slice_index text n == line_feed then suc n else line_start text n

-- the end of the line that contains the byte before an offset, including the line end
abbrev pub lines_end : List ℕ → ℕ → ℕ
lines_end text zero = zero
lines_end text (suc n) = if slice_index text n == line_feed then suc n else after_line text (suc n)

abbrev pub lines_around : List ℕ → Span → Span
lines_around text s = record { start = line_start text s.start; end = lines_end text s.end }

-- whether the value is an array and the byte is `[`, or the value is a table and the byte is `{`
abbrev pub opens : Inner → ℕ → Bool
opens (array ns) c = c == left_bracket
opens (table ms) c = c == left_brace
opens _ c = false

-- whether the value is written in brackets or braces, and the span is between them
abbrev pub encloses : List ℕ → Node → Span → Bool
encloses text n s =
    nat_lt (span_of n).start s.start
    && (nat_lt s.end (span_of n).end && opens (inner_of n) (slice_index text (span_of n).start))

-- the span between the brackets or braces of the value `n`, if they enclose the span `s`, otherwise `outer`
abbrev pub held_in : List ℕ → Node → Span → Option Span → Option Span
held_in text n s outer =
    if encloses text n s then Some (record { start = (span_of n).start + 1; end = (span_of n).end - 1 }) else outer

abbrev pub room_at : List ℕ → Path → (Option Span → Node → Option Span) → Node → Option Span
    → Option (Option Span × Node) → Option Span
room_at text path deeper n outer None = None
room_at text [] deeper n outer (Some (key, m)) =
    Some (unwrap_or (held_in text n (with_key key (reach text m)) outer)
    (lines_around text (with_key key (reach text m))))
room_at text (segment ∷ path) deeper n outer (Some (key, m)) =
    deeper (held_in text n (with_key key (reach text m)) outer) m

-- The span in which the value at the path is written: from its first to its last line or, if brackets or braces are
-- around it, the span between the innermost pair of these. The path begins at the node `n`; `outer` is the span
-- between the brackets or braces around that node, if there are any.
abbrev pub room : List ℕ → Path → Option Span → Node → Option Span
room text [] outer n = None
room text (segment ∷ path) outer n = room_at text path (room text path) n outer (named segment (inner_of n))

-- the smallest span that contains `s` and the lines of each section whose path begins with `path`
abbrev pub with_sections : List ℕ → Path → Span → List SectionMention → Span
with_sections text path s [] = s
with_sections text path s (m ∷ ms) =
    with_sections text path
    (if names_first path m.path then hull s (lines_around text (hull m.header m.body)) else s) ms

-- The span contains the whole value at the path: the lines of the value and of its sections or, if brackets or braces
-- are around it, the span between the innermost pair of these.
abbrev pub IsAround : Path → Node → List ℕ → Span → Type 0
IsAround path n text s =
    (sections : List ParsedSection) × (inner : Span) × document text depth_limit (Ok sections)
    × (room text path None n ≡ Some inner) × (s ≡ with_sections text path inner (document_sections text sections))

-- Only bytes in the span around the value at the path have changed.
abbrev pub IsCut : Path → Node → List ℕ → List ℕ → Type 0
IsCut path n text new = (s : Span) × IsAround path n text s × KeepsAround text s new

-- whether a text has only blanks and comments with their line ends; the `Bool` says whether it begins inside a comment
abbrev pub only_comments : Bool → List ℕ → Bool
only_comments within [] = true
only_comments true (c ∷ cs) = only_comments (not (c == line_feed)) cs
only_comments false (c ∷ cs) =
    if is_blank c then only_comments false cs else c == hash && only_comments true cs

-- Like `IsCut`, but comments directly above the value may have changed too.
abbrev pub IsCutWithComments : Path → Node → List ℕ → List ℕ → Type 0
IsCutWithComments path n text new =
    (s : Span) × (above : ℕ) × IsAround path n text s
    × (above ≤ s.start) × (only_comments false (slice_range text above s.start) ≡ true)
    × KeepsAround text (record { start = above; end = s.end }) new

-- First, only bytes in the span around the value at the path change (`IsCut`), and then text is inserted
-- (`IsInserted`).
abbrev pub IsCutThenInserted : Path → Node → List ℕ → List ℕ → Type 0
IsCutThenInserted path n text new = (mid : List ℕ) × IsCut path n text mid × IsInserted mid new

-- Only bytes in the span around the value at the path change, or around the array that holds the value, and then text
-- is inserted.
abbrev pub IsRewritten : Path → Node → List ℕ → List ℕ → Type 0
IsRewritten path n text new =
    IsCutThenInserted path n text new
    ⊎ ((front : Path) × (name : List ℕ) × Splits path front name × IsCutThenInserted front n text new)

-- Only bytes in the span around the array that holds the value at the path, and in the comments directly above it,
-- change, and then text is inserted: an empty array.
abbrev pub IsEmptied : Path → Node → List ℕ → List ℕ → Type 0
IsEmptied path n text new =
    (front : Path) × (name : List ℕ) × (mid : List ℕ) × Splits path front name × IsCutWithComments front n text mid
    × IsInserted mid new

-- Only bytes in the span around the value at the path, and in the comments directly above it, change. Or the value is
-- the only element of an array of tables, and an empty array replaces that array.
abbrev pub IsRemoved : Path → Node → List ℕ → List ℕ → Type 0
IsRemoved path n text new = IsCutWithComments path n text new ⊎ IsEmptied path n text new

-- ---- tables that are moved

-- whether a byte is a space, a tab, an opening bracket or in a byte order mark
abbrev pub is_opening : ℕ → Bool
is_opening c = is_blank c || (c == left_bracket || (c == 239 || (c == 187 || c == 191)))

-- Whether the span of the replacement has no line end, and only blanks, a byte order mark and at least one opening
-- bracket are before it on its line.
abbrev pub is_header_part : List ℕ → Replacement → Bool
is_header_part text e =
    let before = slice_range text (line_start text e.0.start) e.0.start in
    list_all is_opening before && (list_any (λ c. c == left_bracket) before
    && not (list_any (λ c. c == line_feed) (slice_range text e.0.start e.0.end)))

-- Each replacement is as `is_header_part` requires. All other bytes are the same.
abbrev pub AreHeadersReplaced : List ℕ → List ℕ → Type 0
AreHeadersReplaced text new =
    (es : List Replacement) × (list_all (is_header_part text) es ≡ true) × (replaced text es ≡ Some new)

-- Text is inserted, and then parts of headers are replaced.
abbrev pub HasOtherHeaders : List ℕ → List ℕ → Type 0
HasOtherHeaders text new = (mid : List ℕ) × IsInserted text mid × AreHeadersReplaced mid new

-- The value at the path is removed, and then text is inserted. Or text is inserted, and parts of headers are replaced.
-- Or only the key of the value is replaced, wherever it is written.
abbrev pub IsMovedText : Path → Node → List ℕ → List ℕ → Type 0
IsMovedText path n text new =
    ((mid : List ℕ) × IsRemoved path n text mid × IsInserted mid new)
    ⊎ (HasOtherHeaders text new ⊎ HasOtherKey path text new)

-- ---- changes

-- The text `new`, which is `text` with the change made at the path, has all bytes that the change must keep. `n` is the
-- tree of `text`.
abbrev pub Keeps : Change → Path → Node → List ℕ → List ℕ → Type 0
Keeps (changes.Set v) path n text new = IsWrittenOver v.now path n text new
Keeps (changes.Replace v) path n text new =
    IsWrittenOver v.now path n text new ⊎ (IsRewritten path n text new × AddsNoComment v.now text new)
Keeps (changes.SetOrAdd v) path n text new = IsWrittenOver v.now path n text new ⊎ IsAdded v.now text new
Keeps (changes.Rename name) path n text new = AreKeysReplaced name.now path text new
Keeps changes.Remove path n text new = IsRemoved path n text new × AddsNoComment [] text new
Keeps (changes.Add v) path n text new = IsAdded v.now text new
Keeps changes.AddTable path n text new = IsAdded [] text new
Keeps (changes.Append v) path n text new = IsAdded v.now text new
Keeps (changes.Insert v) path n text new = IsAdded v.now text new
Keeps (changes.MoveTo target) path n text new = IsMovedText path n text new × AddsNoComment [] text new
