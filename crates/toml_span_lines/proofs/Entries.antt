-- The entries of a tree: each node with its path, before those inside it.
use Rattle.toml_span_lex.proofs.Common.{ℕ, suc, List, [], ◌∷◌, ◌++◌, Option, Some, None}
use Rattle.toml_span_lex.specs.declared.span.Span.{Span}
use Rattle.toml_span_tree.specs.Node.{Node, node, Inner, taken, scalar, array, table, Items, no_items, item, Members, no_members, member}
use Rattle.toml_span_tree.specs.Path.{Step, key, position, shape_of}
use Rattle.toml_span_lines.specs.Shown.{PlaceAt}

-- the same entries below a step
abbrev pub under : Step → List PlaceAt → List PlaceAt
under s [] = []
under s (e ∷ es) = (s ∷ e.0, e.1) ∷ under s es

abbrev mutual
  pub node_entries : Option Span → Node → List PlaceAt
  node_entries at (node i span) = ([], record { shape = shape_of i; key_span = at; span = span }) ∷ inner_entries i

  pub inner_entries : Inner → List PlaceAt
  inner_entries taken = []
  inner_entries (scalar s) = []
  inner_entries (array ns) = items_entries 0 ns
  inner_entries (table ms) = members_entries ms

  pub items_entries : ℕ → Items → List PlaceAt
  items_entries i no_items = []
  items_entries i (item n ns) = under (position i) (node_entries None n) ++ items_entries (suc i) ns

  pub members_entries : Members → List PlaceAt
  members_entries no_members = []
  members_entries (member name at n ms) = under (key name) (node_entries (Some at) n) ++ members_entries ms
