-- The value that `port_of` reads from a field of a document, and the error that it returns.
use Rattle.std.specs.Prelude.{◌≡◌, ◌^◌, ◌⊎◌, ⊤, ℕ, List, [], ◌∷◌, length, Option, Some, None, Result, Ok, Err, codes}
use Rattle.toml_span_lex.specs.declared.span.Span.{Span}
use Rattle.toml_span_lex.specs.declared.stop.Stop.{Stop}
use Rattle.toml_span_lex.specs.declared.stop.Stop.TheVariants as stops
use Rattle.toml_span_tree.specs.declared.error.Error.{Error}
use Rattle.toml_span_tree.specs.Error.{ErrorContent, content_of, missing_field}
use Rattle.toml_span_tree.specs.Node.{Node, node, Inner, taken, scalar, array, table, no_items, no_members}
use Rattle.toml_span_tree.specs.Path.{Path, Place, Shape, shape_taken, shape_scalar, shape_array, shape_table, key}
use Rattle.toml_span_tree.specs.Errors.{Errors, one}
use Rattle.toml_span_typed.specs.Reads.{read_integer, unsigned}
use Rattle.toml_span_read.specs.Data.{depth_limit}
use Rattle.toml_span.specs.Parsing.{IsRefusal}
use Rattle.toml_span_laws.specs.Document.{IsDocument}

abbrev pub inner_with : Shape → Inner
inner_with shape_taken = taken
inner_with (shape_scalar s) = scalar s
inner_with shape_array = array no_items
inner_with shape_table = table no_members

-- a node with the shape and the span of a place; an array or a table has no elements or entries
abbrev pub face : Place → Node
face x = node (inner_with x.shape) x.span

abbrev pub read_or : {T : Type 0} → Result T Errors → (Node → Result T Errors) → Option Place → Result T Errors
read_or otherwise read None = otherwise
read_or otherwise read (Some x) = read (face x)

-- the error for a table that has this span and lacks the key `name`
abbrev pub lacks : List ℕ → Span → ErrorContent
lacks name span = record { kind = missing_field name; span = span; line_info = None }

-- the result of `read` for the value at the key `name` of the root, whose span is `span`; `MissingField` if the key is
-- absent
abbrev pub required_field : {T : Type 0} → (Node → Result T Errors) → List ℕ → Span → (Path → Option Place)
    → Result T Errors
required_field read name span places = read_or (Err (one (lacks name span))) read (places (key name ∷ []))

-- the span of the whole text
abbrev pub whole : List ℕ → Span
whole text = record { start = 0; end = length text }

abbrev pub number : Node → Result ℕ Errors
number = read_integer (codes "u16") (unsigned (2 ^ 16))

-- Why `port_of` fails. If no allocation failed, either the text is not valid TOML, and this is its error; or it is
-- valid TOML, and the error is the last of those that a read of the port returns.
abbrev pub NoPort : List ℕ → Stop Error → Type 0
NoPort text (stops.Memory e) = ⊤
NoPort text (stops.Fault error) =
    IsRefusal text depth_limit (stops.Fault error)
    ⊎ IsDocument text (λ places. (faults : Errors)
    × (required_field number (codes "port") (whole text) places ≡ Err faults) × (content_of error ≡ faults.last))
