-- A value as JSON, in which scalars may have their types, as in the test suite `toml-test`, or as its raw text.
use Rattle.std.specs.Prelude.{ℕ, Bool, true, false, List, [], ◌++◌, codes, if◌then◌else◌}
use Rattle.std.specs.Fmt.{signed_decimal}
use Rattle.toml_span_report.specs.Visible.{quoted}
use Rattle.toml_span_tree.specs.Float.{float_text}
use Rattle.toml_span_tree.specs.Node.{FloatValue, finite, infinite, not_a_number}
use Rattle.toml_span_tree.specs.Node.{Scalar, text, integer, float, boolean, datetime, Node, node, Inner, taken, scalar}
use Rattle.toml_span_tree.specs.Node.{array, table, Items, no_items, item, Members, no_members, member}
use Rattle.toml_span_check.specs.Dates.{date_type, with_seconds}

-- ---- scalars

abbrev pub truth : Bool → List ℕ
truth true = codes "true"
truth false = codes "false"

-- `{"type":"integer","value":"42"}`
abbrev pub tagged : List ℕ → List ℕ → List ℕ
tagged type value = codes "{\"type\":" ++ quoted type ++ codes ",\"value\":" ++ quoted value ++ codes "}"

-- JSON has no infinity and no NaN, so these are strings.
abbrev pub plain_float : FloatValue → List ℕ
plain_float (finite digits) = digits
plain_float (infinite negative) = quoted (float_text (infinite negative))
plain_float (not_a_number negative) = quoted (float_text (not_a_number negative))

abbrev pub scalar_text : Bool → Scalar → List ℕ
scalar_text true (text s) = tagged (codes "string") s
scalar_text true (integer z) = tagged (codes "integer") (signed_decimal z)
scalar_text true (float x) = tagged (codes "float") (float_text x)
scalar_text true (boolean b) = tagged (codes "bool") (truth b)
scalar_text true (datetime d) = tagged (date_type d) (with_seconds d)
scalar_text false (text s) = quoted s
scalar_text false (integer z) = signed_decimal z
scalar_text false (float x) = plain_float x
scalar_text false (boolean b) = truth b
scalar_text false (datetime d) = quoted d

-- the text of a scalar, and the empty text for an array, a table or a value that has been taken
abbrev pub own_text : Bool → Inner → List ℕ
own_text is_tagged taken = []
own_text is_tagged (scalar s) = scalar_text is_tagged s
own_text is_tagged (array ns) = []
own_text is_tagged (table ms) = []

-- ---- trees

abbrev pub comma_if : Bool → List ℕ
comma_if later = if later then codes "," else []

-- a value as JSON without spaces, `null` for one that has been taken; `is_tagged` says whether scalars have their types
abbrev mutual
  pub to_json : Bool → Node → List ℕ
  to_json is_tagged (node i span) = inner_shown is_tagged i

  pub inner_shown : Bool → Inner → List ℕ
  inner_shown is_tagged taken = codes "null"
  inner_shown is_tagged (scalar s) = scalar_text is_tagged s
  inner_shown is_tagged (array ns) = codes "[" ++ items_shown is_tagged false ns
  inner_shown is_tagged (table ms) = codes "{" ++ members_shown is_tagged false ms

  -- the elements with the closing bracket; `later` says whether an element precedes them
  pub items_shown : Bool → Bool → Items → List ℕ
  items_shown is_tagged later no_items = codes "]"
  items_shown is_tagged later (item n ns) = comma_if later ++ to_json is_tagged n ++ items_shown is_tagged true ns

  pub members_shown : Bool → Bool → Members → List ℕ
  members_shown is_tagged later no_members = codes "}"
  members_shown is_tagged later (member name key n ms) =
      comma_if later ++ quoted name ++ codes ":" ++ to_json is_tagged n ++ members_shown is_tagged true ms

-- a string, float, date or time as its text, and any other value as JSON
abbrev pub raw_inner : Inner → List ℕ
raw_inner (scalar (text s)) = s
raw_inner (scalar (float x)) = float_text x
raw_inner (scalar (datetime d)) = d
raw_inner i = inner_shown false i

abbrev pub raw : Node → List ℕ
raw (node i span) = raw_inner i
