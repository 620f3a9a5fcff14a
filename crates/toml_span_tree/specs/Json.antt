-- The JSON value of a tree, without spans. Floats, dates and times are strings.
use Rattle.serde_json.specs.Data as json
use Rattle.serde_json.specs.Find.{of_integer}
use Rattle.toml_span_tree.specs.Float.{float_text}
use Rattle.toml_span_tree.specs.Node.{Scalar, text, integer, float, boolean, datetime, Node, node, Inner, taken, scalar}
use Rattle.toml_span_tree.specs.Node.{array, table, Items, no_items, item, Members, no_members, member}

abbrev pub scalar_json : Scalar → json.Data
scalar_json (text s) = json.string s
scalar_json (integer z) = json.number (of_integer z)
scalar_json (float x) = json.string (float_text x)
scalar_json (boolean b) = json.boolean b
scalar_json (datetime d) = json.string d

-- A value that has been taken becomes `null`.
abbrev mutual
  pub json_of : Node → json.Data
  json_of (node i span) = json_in i

  pub json_in : Inner → json.Data
  json_in taken = json.null
  json_in (scalar s) = scalar_json s
  json_in (array ns) = json.array (json_items ns)
  json_in (table ms) = json.object (json_members ms)

  pub json_items : Items → json.Items
  json_items no_items = json.no_items
  json_items (item n ns) = json.item (json_of n) (json_items ns)

  pub json_members : Members → json.Members
  json_members no_members = json.no_members
  json_members (member name key n ms) = json.member name (json_of n) (json_members ms)
