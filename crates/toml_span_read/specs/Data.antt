-- What was read, as plain data, and the highest limit on depth. A string is its bytes, whether it is borrowed or not.
use Rattle.std.specs.Prelude.{ℕ, Bool, false, List, [], ◌∷◌, ◌++◌, map}
use Rattle.std.specs.Cow.{cow_str_bytes}
use Rattle.toml_span_lex.specs.declared.key.Key.{Key}
use Rattle.toml_span_lex.specs.declared.span.Span.{Span}
use Rattle.toml_span_tree.specs.Node.{Scalar, text, integer, float, boolean, datetime}
use Rattle.toml_span_tree.specs.Value.{float_value, date_bytes}
use Rattle.toml_span_read.specs.declared.value.DottedKey.{DottedKey}
use Rattle.toml_span_read.specs.declared.value.ValKind.TheOpen.{ValKind-F, Val-F, Assignment-F}
use Rattle.toml_span_read.specs.declared.value.Val.{Val}
use Rattle.toml_span_read.specs.declared.value.ValKind.TheFolds.{fold-Val, fold-ValKind, fold-Assignment}
use Rattle.toml_span_read.specs.declared.value.ValKind.{ValKind}
use Rattle.toml_span_read.specs.declared.value.Assignment.{Assignment}
use Rattle.toml_span_read.specs.declared.section.Section.{Section}

-- a simple key, or a part of a dotted key: its name and its span
pub record SimpleKey : Type 0 where
  pub name : List ℕ
  pub span : Span

mutual
  -- a value and its span
  pub data ParsedValue : Type 0 where
    parsed : ParsedInner → Span → ParsedValue

  pub data ParsedInner : Type 0 where
    scalar : Scalar → ParsedInner
    array : ParsedItems → ParsedInner
    inline : ParsedPairs → ParsedInner

  -- the elements of an array, in order
  pub data ParsedItems : Type 0 where
    no_items : ParsedItems
    item : ParsedValue → ParsedItems → ParsedItems

  -- the pairs of an inline table, in order, each with the parts of its key, its value and its extent
  pub data ParsedPairs : Type 0 where
    no_pairs : ParsedPairs
    pair : List SimpleKey → ParsedValue → Span → ParsedPairs → ParsedPairs

-- an assignment: the parts of its key, its value and its extent
pub record ParsedAssignment : Type 0 where
  pub parts : List SimpleKey
  pub value : ParsedValue
  pub extent : Span

-- the span of a value
abbrev pub parsed_span : ParsedValue → Span
parsed_span (parsed inner span) = span

-- A section: the parts of its header; whether the header has double brackets; the span of the header's line; the
-- extent; and the assignments. The extent is from the header to the end of the last assignment or, without assignments,
-- to the end of the header's line. For a section without a header, see `headerless_section`.
pub record ParsedSection : Type 0 where
  pub header : List SimpleKey
  pub array : Bool
  pub header_span : Span
  pub extent : Span
  pub assignments : List ParsedAssignment

-- the span from offset i to offset j (exclusive)
abbrev pub from_to : ℕ → ℕ → Span
from_to i j = record { start = i; end = j }

-- the end of the last of these assignments, or n without assignments
abbrev pub last_end : ℕ → List ParsedAssignment → ℕ
last_end n [] = n
last_end n (ev ∷ evs) = last_end ev.extent.end evs

-- The section of the assignments before the first header, as a list, which is empty without such assignments. The
-- header of the section has no parts and the span 0..0. Its extent is from the first assignment to the end of the last.
abbrev pub headerless_section : List ParsedAssignment → List ParsedSection
headerless_section [] = []
headerless_section (ev ∷ evs) =
    record {
      header = [];
      array = false;
      header_span = from_to 0 0;
      extent = from_to ev.extent.start (last_end ev.extent.end evs);
      assignments = ev ∷ evs;
    } ∷ []

-- the highest limit that a caller may set; `parse` uses it
abbrev pub depth_limit : ℕ
depth_limit = 128

-- ---- the code's values as plain data

-- the values of this list, and then the items `rest`
abbrev pub onto : List ParsedValue → ParsedItems → ParsedItems
onto [] rest = rest
onto (n ∷ ns) rest = item n (onto ns rest)

abbrev pub pairs_onto : List ParsedAssignment → ParsedPairs → ParsedPairs
pairs_onto [] rest = rest
pairs_onto (p ∷ ps) rest = pair p.parts p.value p.extent (pairs_onto ps rest)

-- a `Key` as plain data; `parts` converts the parts of a `DottedKey`
abbrev pub simple_key : Key → SimpleKey
simple_key key = record { name = cow_str_bytes key.name; span = key.span }

abbrev pub parts : DottedKey → List SimpleKey
parts key = map simple_key key.inner.items ++ (simple_key key.last ∷ [])

-- A `ValKind`, a `Val` and an `Assignment` as plain data. What is inside them is converted already.
abbrev pub kind_step : ValKind-F ParsedInner ParsedAssignment ParsedValue → ParsedInner
kind_step (ValKind-F.String s) = scalar (text (cow_str_bytes s))
kind_step (ValKind-F.Integer n) = scalar (integer n)
kind_step (ValKind-F.Float x) = scalar (float (float_value x))
kind_step (ValKind-F.Boolean b) = scalar (boolean b)
kind_step (ValKind-F.Datetime d) = scalar (datetime (date_bytes d))
kind_step (ValKind-F.Array v) = array (onto v.items no_items)
kind_step (ValKind-F.Inline v) = inline (pairs_onto v.items no_pairs)

abbrev pub val_step : Val-F ParsedInner ParsedAssignment ParsedValue → ParsedValue
val_step v = parsed v.kind v.span

abbrev pub assignment_step : Assignment-F ParsedInner ParsedAssignment ParsedValue → ParsedAssignment
assignment_step a = record { parts = parts a.parts; value = a.value; extent = a.extent }

abbrev pub parsed_value : Val → ParsedValue
parsed_value = fold-Val ParsedInner ParsedAssignment ParsedValue kind_step assignment_step val_step

abbrev pub parsed_kind : ValKind → ParsedInner
parsed_kind = fold-ValKind ParsedInner ParsedAssignment ParsedValue kind_step assignment_step val_step

abbrev pub parsed_assignment : Assignment → ParsedAssignment
parsed_assignment = fold-Assignment ParsedInner ParsedAssignment ParsedValue kind_step assignment_step val_step

abbrev pub parsed_section : Section → ParsedSection
parsed_section s = record {
  header = map simple_key s.header.items;
  array = s.array;
  header_span = s.header_span;
  extent = s.extent;
  assignments = map parsed_assignment s.assignments.items;
}
