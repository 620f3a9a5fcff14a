-- The path map of a tree: the place at each path.
use Rattle.std.specs.Prelude.{◌≡◌, ℕ, zero, suc, List, [], ◌∷◌, ◌++◌, cond, Option, Some, None, option_map}
use Rattle.std.specs.Prelude.{option_and_then}
use Rattle.std.specs.Str.{bytes_eq}
use Rattle.toml_span_lex.specs.declared.span.Span.{Span}
use Rattle.toml_span_tree.specs.Node.{Scalar, Node, node, Inner, taken, scalar, array, table, Items, no_items, item}
use Rattle.toml_span_tree.specs.Node.{Members, no_members, member, entry_at, element_at}
use Rattle.toml_span_tree.specs.Value.{inner_of, span_of}

-- a step: to the entry with a name, or to the element at a position
pub data Step : Type 0 where
  key : List ℕ → Step
  position : ℕ → Step

abbrev pub Path : Type 0
Path = List Step

-- the kind of a value and, for a scalar, its content; `shape_taken` if the content of the value has been taken
pub data Shape : Type 0 where
  shape_taken : Shape
  shape_scalar : Scalar → Shape
  shape_array : Shape
  shape_table : Shape

-- The place at a path: the shape and the span of the value there and, if it is an entry of a table, the span of its
-- key.
pub record Place : Type 0 where
  pub shape : Shape
  pub key_span : Option Span
  pub span : Span

abbrev pub shape_of : Inner → Shape
shape_of taken = shape_taken
shape_of (scalar s) = shape_scalar s
shape_of (array ns) = shape_array
shape_of (table ms) = shape_table

-- the value to which a step leads, with the span of its key, if it has one
abbrev pub at_step : Step → Inner → Option (Option Span × Node)
at_step s taken = None
at_step s (scalar x) = None
at_step (key name) (array ns) = None
at_step (position i) (array ns) = element_at i ns
at_step (key name) (table ms) = entry_at name ms
at_step (position i) (table ms) = None

-- the value to which the path leads from n, with the span of its key, if it has one
abbrev pub reached : Path → Option Span × Node → Option (Option Span × Node)
reached [] n = Some n
reached (s ∷ path) n = option_and_then (reached path) (at_step s (inner_of n.1))

abbrev pub place_of : Option Span × Node → Place
place_of n = record { shape = shape_of (inner_of n.1); key_span = n.0; span = span_of n.1 }

-- the path map: the place at a path of the tree n
abbrev pub place_at : Path → Node → Option Place
place_at path n = option_map place_of (reached path (None, n))

-- the value at a path
abbrev pub node_at : Path → Node → Option Node
node_at path n = option_map (λ m. m.1) (reached path (None, n))

-- the value to which a step leads
abbrev pub child : Step → Node → Option Node
child s n = option_map (λ m. m.1) (at_step s (inner_of n))

-- the entries after w replaced the value of the entry with this name; keys and their spans are unchanged
abbrev pub set_entry : List ℕ → Node → Members → Members
set_entry name w no_members = no_members
set_entry name w (member other span n ms) =
    cond (bytes_eq name other) (member other span w ms) (member other span n (set_entry name w ms))

-- the elements after w replaced the one at position i
abbrev pub set_element : ℕ → Node → Items → Items
set_element i w no_items = no_items
set_element zero w (item n ns) = item w ns
set_element (suc i) w (item n ns) = item n (set_element i w ns)

-- the table or array after w replaced the value to which the step leads
abbrev pub set_at_step : Step → Node → Inner → Inner
set_at_step s w taken = taken
set_at_step s w (scalar x) = scalar x
set_at_step (key name) w (array ns) = array ns
set_at_step (position i) w (array ns) = array (set_element i w ns)
set_at_step (key name) w (table ms) = table (set_entry name w ms)
set_at_step (position i) w (table ms) = table ms

abbrev pub put_where : Option Node → Step → (Node → Node) → Node → Node
put_where None s change n = n
put_where (Some m) s change n = node (set_at_step s (change m) (inner_of n)) (span_of n)

-- n after w replaced the value at the path: w itself if the path is empty, and n itself if the path leads nowhere
abbrev pub put : Path → Node → Node → Node
put [] w n = w
put (s ∷ path) w n = put_where (child s n) s (put path w) n

-- The path begins with the steps of `start`.
abbrev pub BeginsWith : Path → Path → Type 0
BeginsWith start path = (rest : Path) × (path ≡ start ++ rest)
