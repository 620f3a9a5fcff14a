-- A tree as a row of pieces: one for each scalar, taken value and key, and two for each array and table, at its
-- beginning and at its end.
use Rattle.std.specs.Prelude.{ℕ, List, [], ◌∷◌, ◌++◌}
use Rattle.toml_span_lex.specs.declared.span.Span.{Span}
use Rattle.toml_span_tree.specs.Node.{Scalar, Node, node, Inner, taken, scalar, array, table, Items, no_items, item}
use Rattle.toml_span_tree.specs.Node.{Members, no_members, member}

pub data Content : Type 0 where
  value : Scalar → Content
  nothing : Content
  array_begins : Content
  array_ends : Content
  table_begins : Content
  table_ends : Content
  key : List ℕ → Content

-- a piece: its content, and the span of the value or key
pub record Piece : Type 0 where
  pub content : Content
  pub span : Span

abbrev pub piece : Content → Span → Piece
piece content span = record { content = content; span = span }

abbrev mutual
  pub pieces : Node → List Piece
  pieces (node i span) = held_pieces span i

  pub held_pieces : Span → Inner → List Piece
  held_pieces span taken = piece nothing span ∷ []
  held_pieces span (scalar s) = piece (value s) span ∷ []
  held_pieces span (array ns) = piece array_begins span ∷ (items_pieces ns ++ (piece array_ends span ∷ []))
  held_pieces span (table ms) = piece table_begins span ∷ (members_pieces ms ++ (piece table_ends span ∷ []))

  pub items_pieces : Items → List Piece
  items_pieces no_items = []
  items_pieces (item n ns) = pieces n ++ items_pieces ns

  pub members_pieces : Members → List Piece
  members_pieces no_members = []
  members_pieces (member name span n ms) = piece (key name) span ∷ (pieces n ++ members_pieces ms)
