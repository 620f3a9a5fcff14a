-- The records of a tree: one for each value, each before those of the values inside it.
use Rattle.std.specs.Prelude.{ℕ, suc, ◌+◌, ℤ, pos, Bool, true, ◌&&◌, nat_le, List, [], ◌∷◌, ◌++◌, length}
use Rattle.std.specs.Prelude.{take, drop, slice_range, Option, Some, None, unwrap_or, if◌then◌else◌}
use Rattle.std.specs.Float.{Float, binary64}
use Rattle.std.specs.List.{flat_map}
use Rattle.std.specs.Str.{bytes_eq}
use Rattle.fast_float.specs.Parse.{parse_float}
use Rattle.toml_span_lex.specs.declared.span.Span.{Span}
use Rattle.toml_span_tree.specs.Float.{float_text}
use Rattle.toml_span_tree.specs.Node.{Scalar, text, integer, float, boolean, datetime, Node, node, Inner, taken, scalar}
use Rattle.toml_span_tree.specs.Node.{array, table, Items, no_items, item, Members, no_members, member}
use Rattle.toml_span_tree.specs.Value.{holds_nothing, inner_of, span_of}
use Rattle.toml_span_c.specs.declared.records.TheConstants.{NONE, NO_NUMBER}
use Rattle.toml_span_c.specs.declared.records.Counts.{Counts}
use Rattle.toml_span_c.specs.declared.records.Range.{Range}
use Rattle.toml_span_c.specs.declared.records.Record.{Record}
use Rattle.toml_span_c.specs.declared.records.Text.{Text}

-- ---- the fields of a value

abbrev pub scalar_number : Scalar → ℕ
scalar_number (text s) = 1
scalar_number (integer z) = 2
scalar_number (float x) = 3
scalar_number (boolean b) = 4
scalar_number (datetime d) = 5

-- the number of a value's kind, and 0 for a value that has been taken
abbrev pub kind_number : Inner → ℕ
kind_number taken = 0
kind_number (scalar s) = scalar_number s
kind_number (array ns) = 6
kind_number (table ms) = 7

abbrev pub scalar_boolean : Scalar → ℕ
scalar_boolean (boolean true) = 1
scalar_boolean _ = 0

-- 1 for `true`, and 0 for any other value
abbrev pub boolean_of : Inner → ℕ
boolean_of (scalar s) = scalar_boolean s
boolean_of _ = 0

abbrev pub scalar_integer : Scalar → ℤ
scalar_integer (integer z) = z
scalar_integer _ = pos 0

-- the value of an integer, and 0 for any other value
abbrev pub integer_of : Inner → ℤ
integer_of (scalar s) = scalar_integer s
integer_of _ = pos 0

abbrev pub scalar_float : Scalar → Float
scalar_float (float x) = unwrap_or (parse_float binary64 (float_text x)) NO_NUMBER
scalar_float _ = NO_NUMBER

-- the number nearest to the text of a float, and 0.0 for any other value
abbrev pub number_of : Inner → Float
number_of (scalar s) = scalar_float s
number_of _ = NO_NUMBER

abbrev pub scalar_text : Scalar → Option (List ℕ)
scalar_text (text s) = Some s
scalar_text (float x) = Some (float_text x)
scalar_text (datetime d) = Some d
scalar_text _ = None

-- the text of a string, float, date or time, and `None` for any other value
abbrev pub text_of : Inner → Option (List ℕ)
text_of (scalar s) = scalar_text s
text_of _ = None

abbrev pub items_count : Items → ℕ
items_count no_items = 0
items_count (item n ns) = suc (items_count ns)

abbrev pub members_count : Members → ℕ
members_count no_members = 0
members_count (member name key n ms) = suc (members_count ms)

-- the number of elements of an array or of entries of a table, and 0 for any other value
abbrev pub children_of : Inner → ℕ
children_of (array ns) = items_count ns
children_of (table ms) = members_count ms
children_of _ = 0

-- ---- the order of the values

-- A value with the name and span of its key, if it has one, and its position in its parent. `parent` is the index of
-- the parent's record. `next` is the index of the first record after those of the value and of the values inside it.
pub record Entry : Type 0 where
  pub parent : ℕ
  pub position : ℕ
  pub name : Option (List ℕ)
  pub key_span : Span
  pub next : ℕ
  pub value : Node

abbrev pub no_span : Span
no_span = record { start = 0; end = 0 }

-- The entries of a value: first its own, which has the index `at`, and then those of the values inside it. The elements
-- of an array are in order, the values of a table in the order of their names. A value that has been taken has no
-- entries.
abbrev mutual
  pub node_entries : ℕ → ℕ → ℕ → Option (List ℕ) → Span → Node → List Entry
  node_entries at parent i name key (node inner span) =
      if holds_nothing inner then []
      else record {
        parent = parent;
        position = i;
        name = name;
        key_span = key;
        next = suc at + length (held_entries at inner);
        value = node inner span;
      } ∷ held_entries at inner

  pub held_entries : ℕ → Inner → List Entry
  held_entries at taken = []
  held_entries at (scalar s) = []
  held_entries at (array ns) = items_entries (suc at) at 0 ns
  held_entries at (table ms) = members_entries (suc at) at 0 ms

  pub items_entries : ℕ → ℕ → ℕ → Items → List Entry
  items_entries at parent i no_items = []
  items_entries at parent i (item n ns) =
      let first = node_entries at parent i None no_span n in
      first ++ items_entries (at + length first) parent (suc i) ns

  pub members_entries : ℕ → ℕ → ℕ → Members → List Entry
  members_entries at parent i no_members = []
  members_entries at parent i (member name key n ms) =
      let first = node_entries at parent i (Some name) key n in
      first ++ members_entries (at + length first) parent (suc i) ms

-- the entries of a document
abbrev pub tree_entries : Node → List Entry
tree_entries n = node_entries 0 NONE 0 None no_span n

-- ---- texts

-- whether the bytes of the document at the span are the text `s`
abbrev pub is_written_at : List ℕ → Span → List ℕ → Bool
is_written_at document span s =
    nat_le span.start span.end && nat_le span.end (length document)
    && bytes_eq (slice_range document span.start span.end) s

-- Where a text is: in the document, if the document has the text at the span, otherwise in the string array, after
-- `after` bytes. For `None`, a `Text` without bytes.
abbrev pub place_of : List ℕ → ℕ → Span → Option (List ℕ) → Text
place_of document after span None = record { source = 0; at = 0; length = 0 }
place_of document after span (Some s) =
    if is_written_at document span s
    then record { source = 0; at = span.start; length = length s }
    else record { source = 1; at = after; length = length s }

-- the bytes of a text that go into the string array: none if the document has the text at the span
abbrev pub aside : List ℕ → Span → Option (List ℕ) → List ℕ
aside document span None = []
aside document span (Some s) = if is_written_at document span s then [] else s

abbrev pub key_aside : List ℕ → Entry → List ℕ
key_aside document e = aside document e.key_span e.name

-- the bytes of the name and of the text of an entry that go into the string array
abbrev pub entry_strings : List ℕ → Entry → List ℕ
entry_strings document e = key_aside document e ++ aside document (span_of e.value) (text_of (inner_of e.value))

-- ---- records

abbrev pub range_of : Span → Range
range_of span = record { start = span.start; end = span.end }

-- the record of an entry, whose strings begin after `after` bytes of the string array
abbrev pub record_of : List ℕ → ℕ → Entry → Record
record_of document after e = record {
  kind = kind_number (inner_of e.value);
  boolean = boolean_of (inner_of e.value);
  span = range_of (span_of e.value);
  key_span = range_of e.key_span;
  key = place_of document after e.key_span e.name;
  text = place_of document (after + length (key_aside document e)) (span_of e.value) (text_of (inner_of e.value));
  parent = e.parent;
  position = e.position;
  children = children_of (inner_of e.value);
  next = e.next;
  integer = integer_of (inner_of e.value);
  number = number_of (inner_of e.value);
}

abbrev pub records_of : List ℕ → ℕ → List Entry → List Record
records_of document after [] = []
records_of document after (e ∷ es) =
    record_of document after e ∷ records_of document (after + length (entry_strings document e)) es

abbrev pub strings_of : List ℕ → List Entry → List ℕ
strings_of document es = flat_map (entry_strings document) es

-- the records of a tree, the bytes of its strings, and the numbers of both
abbrev pub tree_records : List ℕ → Node → List Record
tree_records document n = records_of document 0 (tree_entries n)

abbrev pub tree_strings : List ℕ → Node → List ℕ
tree_strings document n = strings_of document (tree_entries n)

abbrev pub tree_counts : List ℕ → Node → Counts
tree_counts document n = record {
  nodes = length (tree_records document n);
  strings = length (tree_strings document n);
}

-- ---- arrays

-- the array `room` with the list `xs` written over its beginning, as much of the list as fits
abbrev pub filled : {A : Type 0} → List A → List A → List A
filled xs room = take (length room) xs ++ drop (length xs) room
