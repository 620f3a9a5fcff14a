-- Values as plain data, and what the methods of `Value` and `ValueInner` return. Plain data leaves out whether a string
-- is borrowed.
use Rattle.std.specs.Prelude.{ℕ, ℤ, List, [], ◌∷◌, map, Bool, true, false, Option, Some, None, option_and_then, ◌&&◌}
use Rattle.std.specs.Prelude.{codes, string_bytes}
use Rattle.std.specs.Cow.{cow_str_bytes}
use Rattle.std.specs.Option.{unwrap_or}
use Rattle.toml_span_lex.specs.declared.key.Key.{Key}
use Rattle.toml_span_lex.specs.declared.span.Span.{Span}
use Rattle.toml_span_tree.specs.declared.date.DateText.{DateText}
use Rattle.toml_span_tree.specs.declared.float.FloatText.{FloatText}
use Rattle.toml_span_tree.specs.declared.float.FloatText.TheVariants.{Finite, Infinite, NotANumber}
use Rattle.toml_span_tree.specs.declared.value.Value.{Value}
use Rattle.toml_span_tree.specs.declared.value.ValueInner.{ValueInner}
use Rattle.toml_span_tree.specs.declared.value.ValueInner.TheOpen.{ValueInner-F, Value-F}
use Rattle.toml_span_tree.specs.declared.value.ValueInner.TheFolds.{fold-Value, fold-ValueInner}
use Rattle.toml_span_tree.specs.Error.{ErrorContent, wanted}
use Rattle.toml_span_tree.specs.Node.{FloatValue, finite, infinite, not_a_number, Scalar, text, integer, float, boolean}
use Rattle.toml_span_tree.specs.Node.{datetime, Node, node, Inner, taken, scalar, array, table, Items, no_items, item}
use Rattle.toml_span_tree.specs.Node.{Members, no_members, member}

abbrev pub float_value : FloatText → FloatValue
float_value (Finite s) = finite (string_bytes s)
float_value (Infinite b) = infinite b
float_value (NotANumber b) = not_a_number b

abbrev pub date_bytes : DateText → List ℕ
date_bytes date = date.text.now

abbrev pub items_of : List Node → Items
items_of [] = no_items
items_of (n ∷ ns) = item n (items_of ns)

abbrev pub members_of : List (Key × Node) → Members
members_of [] = no_members
members_of (m ∷ ms) = member (cow_str_bytes m.0.name) m.0.span m.1 (members_of ms)

-- the conversions to plain data for one level of the tree, where the values inside are already converted
abbrev pub inner_step : ValueInner-F Inner Node → Inner
inner_step (ValueInner-F.String s) = scalar (text (cow_str_bytes s))
inner_step (ValueInner-F.Integer z) = scalar (integer z)
inner_step (ValueInner-F.Float x) = scalar (float (float_value x))
inner_step (ValueInner-F.Boolean b) = scalar (boolean b)
inner_step (ValueInner-F.Datetime d) = scalar (datetime (date_bytes d))
inner_step (ValueInner-F.Array v) = array (items_of v.items)
inner_step (ValueInner-F.Table m) = table (members_of m.entries)

abbrev pub value_step : Value-F Inner Node → Node
value_step v = node (unwrap_or v.value taken) v.span

-- a value as plain data
abbrev pub view : Value → Node
view = fold-Value Inner Node inner_step value_step

-- the content of a value as plain data
abbrev pub inner_view : ValueInner → Inner
inner_view = fold-ValueInner Inner Node inner_step value_step

-- the elements of an array
abbrev pub items_view : List Value → Items
items_view vs = items_of (map view vs)

-- the entries of a table
abbrev pub members_view : List (Key × Value) → Members
members_view es = members_of (map (λ e. (e.0, view e.1)) es)

-- the content of a value; `taken` if the content has been taken
abbrev pub inner_of : Node → Inner
inner_of (node i span) = i

abbrev pub span_of : Node → Span
span_of (node i span) = span

abbrev pub holds_nothing : Inner → Bool
holds_nothing taken = true
holds_nothing _ = false

abbrev pub is_taken : Node → Bool
is_taken n = holds_nothing (inner_of n)

-- whether the value and all values inside it, at any depth, still have their contents
abbrev mutual
  pub is_whole : Node → Bool
  is_whole (node i span) = holds_whole i

  pub holds_whole : Inner → Bool
  holds_whole taken = false
  holds_whole (scalar s) = true
  holds_whole (array ns) = all_whole ns
  holds_whole (table ms) = all_members_whole ms

  pub all_whole : Items → Bool
  all_whole no_items = true
  all_whole (item n ns) = is_whole n && all_whole ns

  pub all_members_whole : Members → Bool
  all_members_whole no_members = true
  all_members_whole (member name key n ms) = is_whole n && all_members_whole ms

-- The scalar, the elements or the entries. None if the value is of another kind, or if its content has been taken.
abbrev pub scalar_in : Inner → Option Scalar
scalar_in (scalar s) = Some s
scalar_in _ = None

abbrev pub items_in : Inner → Option Items
items_in (array ns) = Some ns
items_in _ = None

abbrev pub members_in : Inner → Option Members
members_in (table ms) = Some ms
members_in _ = None

-- the content of a scalar of one kind; None if the scalar is of another kind
abbrev pub text_of : Scalar → Option (List ℕ)
text_of (text s) = Some s
text_of _ = None

abbrev pub integer_of : Scalar → Option ℤ
integer_of (integer z) = Some z
integer_of _ = None

abbrev pub float_of : Scalar → Option FloatValue
float_of (float x) = Some x
float_of _ = None

abbrev pub boolean_of : Scalar → Option Bool
boolean_of (boolean b) = Some b
boolean_of _ = None

abbrev pub datetime_of : Scalar → Option (List ℕ)
datetime_of (datetime d) = Some d
datetime_of _ = None

abbrev pub text_in : Inner → Option (List ℕ)
text_in i = option_and_then text_of (scalar_in i)

abbrev pub integer_in : Inner → Option ℤ
integer_in i = option_and_then integer_of (scalar_in i)

abbrev pub float_in : Inner → Option FloatValue
float_in i = option_and_then float_of (scalar_in i)

abbrev pub boolean_in : Inner → Option Bool
boolean_in i = option_and_then boolean_of (scalar_in i)

abbrev pub datetime_in : Inner → Option (List ℕ)
datetime_in i = option_and_then datetime_of (scalar_in i)

-- the name of the kind
abbrev pub scalar_kind : Scalar → List ℕ
scalar_kind (text s) = codes "string"
scalar_kind (integer z) = codes "integer"
scalar_kind (float x) = codes "float"
scalar_kind (boolean b) = codes "boolean"
scalar_kind (datetime d) = codes "datetime"

abbrev pub kind_name : Inner → List ℕ
kind_name taken = []
kind_name (scalar s) = scalar_kind s
kind_name (array ns) = codes "array"
kind_name (table ms) = codes "table"

-- whether there is at least one entry
abbrev pub is_filled : Members → Bool
is_filled no_members = false
is_filled (member name key n ms) = true

-- whether the value is a table with at least one entry
abbrev pub has_members : Inner → Bool
has_members (table ms) = is_filled ms
has_members _ = false

-- the error `Wanted` at the value's span, which names the expected kind and the kind that was found
abbrev pub wrong_kind : List ℕ → Node → ErrorContent
wrong_kind expected n = record { kind = wanted expected (kind_name (inner_of n)); span = span_of n; line_info = None }
