-- Values, written as TOML on one line.
use Rattle.std.specs.Prelude.{ℕ, Bool, true, false, List, [], ◌++◌, codes, if◌then◌else◌}
use Rattle.std.specs.Fmt.{signed_decimal}
use Rattle.toml_span_tree.specs.Float.{float_text}
use Rattle.toml_span_tree.specs.Node.{Scalar, text, integer, float, boolean, datetime, Node, node, Inner, taken, scalar}
use Rattle.toml_span_tree.specs.Node.{array, table, Items, no_items, item, Members, no_members, member}
use Rattle.toml_span_places.specs.Quoted.{quoted, key_text}

abbrev pub scalar_text : Scalar → List ℕ
scalar_text (text s) = quoted s
scalar_text (integer z) = signed_decimal z
scalar_text (float x) = float_text x
scalar_text (boolean b) = if b then codes "true" else codes "false"
scalar_text (datetime d) = d

-- the text before an element or a pair, which is empty for the first
abbrev pub separator : Bool → List ℕ
separator first = if first then [] else codes ", "

abbrev pub key_equals : List ℕ → List ℕ
key_equals name = key_text name ++ codes " = "

-- The text of a value, an array's elements or a table's entries. A value that has been taken has an empty text.
abbrev mutual
  pub value_text : Node → List ℕ
  value_text (node i span) = inner_text i

  pub inner_text : Inner → List ℕ
  inner_text taken = []
  inner_text (scalar s) = scalar_text s
  inner_text (array ns) = codes "[" ++ (items_text true ns ++ codes "]")
  inner_text (table ms) = codes "{" ++ (members_text true ms ++ codes "}")

  pub items_text : Bool → Items → List ℕ
  items_text first no_items = []
  items_text first (item n ns) = separator first ++ (value_text n ++ items_text false ns)

  pub members_text : Bool → Members → List ℕ
  members_text first no_members = []
  members_text first (member name span n ms) =
      separator first ++ (key_equals name ++ (value_text n ++ members_text false ms))
