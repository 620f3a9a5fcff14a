-- The values directly inside a value.
use Rattle.std.specs.Prelude.{ℕ, ◌+◌, List, [], ◌∷◌, Option, None, Some, Bool, true, false, ◌||◌}
use Rattle.std.specs.Str.{bytes_eq}
use Rattle.std.specs.Cow.{cow_str_bytes}
use Rattle.toml_span_lex.specs.declared.span.Span.{Span}
use Rattle.toml_span_tree.specs.Node.{Node, node, Inner, scalar, text, array, table, Items, no_items, item, Members, no_members, member}
use Rattle.toml_span_tree.specs.Value.{view, inner_of, members_in}
use Rattle.toml_span_schema.specs.declared.listed.Part.{Part as Lent}
use Rattle.toml_span_schema.specs.declared.listed.Part.TheVariants as lent

-- an entry of a table with its name and the span of its key, an element of an array with its position, or a value of
-- which the place does not matter
pub data Part : Type 0 where
  entry : List ℕ → Span → Node → Part
  element : ℕ → Node → Part
  whole : Node → Part

abbrev pub part_of : Lent → Part
part_of (lent.Member key value) = entry (cow_str_bytes key.now.name) key.now.span (view value.now)
part_of (lent.Element i value) = element i (view value.now)
part_of (lent.Whole value) = whole (view value.now)

abbrev pub value_of : Part → Node
value_of (entry name span n) = n
value_of (element i n) = n
value_of (whole n) = n

-- the elements of an array, numbered from i
abbrev pub elements_from : ℕ → Items → List Part
elements_from i no_items = []
elements_from i (item n ns) = element i n ∷ elements_from (i + 1) ns

abbrev pub entries_of : Members → List Part
entries_of no_members = []
entries_of (member name span n ms) = entry name span n ∷ entries_of ms

abbrev pub parts_in : Inner → List Part
parts_in (array ns) = elements_from 0 ns
parts_in (table ms) = entries_of ms
parts_in _ = []

-- the elements of an array in order, or the entries of a table in the order of their names
abbrev pub parts_of : Node → List Part
parts_of n = parts_in (inner_of n)

-- the entries of a table, or the elements of an array, as the `Bool` says; empty for all other values
abbrev pub kind_in : Bool → Inner → List Part
kind_in true (table ms) = entries_of ms
kind_in false (array ns) = elements_from 0 ns
kind_in _ _ = []

-- Whether a table has this key.
abbrev pub has_name : List ℕ → Members → Bool
has_name name no_members = false
has_name name (member other span n ms) = bytes_eq other name || has_name name ms

abbrev pub has_name_in : List ℕ → Option Members → Bool
has_name_in name None = false
has_name_in name (Some ms) = has_name name ms

-- Whether a value is a table with this key.
abbrev pub has_key : Node → List ℕ → Bool
has_key n name = has_name_in name (members_in (inner_of n))

abbrev pub items_count : Items → ℕ
items_count no_items = 0
items_count (item n ns) = items_count ns + 1

abbrev pub members_count : Members → ℕ
members_count no_members = 0
members_count (member name span n ms) = members_count ms + 1

-- the keys of a table as strings, with their spans
abbrev pub name_values : Members → List Node
name_values no_members = []
name_values (member name span n ms) = node (scalar (text name)) span ∷ name_values ms

abbrev pub names_in : Option Members → List Node
names_in None = []
names_in (Some ms) = name_values ms

abbrev pub names_of : Node → List Node
names_of n = names_in (members_in (inner_of n))

abbrev pub is_entry : Part → Bool
is_entry (entry name span n) = true
is_entry _ = false
