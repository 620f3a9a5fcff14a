-- All values of a tree with their paths and their keys.
use Rattle.std.specs.Prelude.{ℕ, suc, List, [], ◌∷◌, ◌++◌, map, Option, None, Some, option_map}
use Rattle.std.specs.Cow.{cow_str_bytes}
use Rattle.toml_span_lex.specs.declared.key.Key.{Key}
use Rattle.toml_span_lex.specs.declared.span.Span.{Span}
use Rattle.toml_span_tree.specs.Node.{Node, node, Inner, taken, scalar, array, table, Items, no_items, item, Members}
use Rattle.toml_span_tree.specs.Node.{no_members, member}
use Rattle.toml_span_tree.specs.Path.{Path, Step, key, position}
use Rattle.toml_span_tree.specs.Value.{view}
use Rattle.toml_span_tree.specs.declared.nodes.Step.{Step as Lent}
use Rattle.toml_span_tree.specs.declared.nodes.Step.TheVariants as lent
use Rattle.toml_span_tree.specs.declared.nodes.Visited.{Visited}

abbrev pub step_of : Lent → Step
step_of (lent.Key name) = key name.now
step_of (lent.Position i) = position i

-- a key's name and its span
abbrev pub key_of : Key → List ℕ × Span
key_of k = (cow_str_bytes k.name, k.span)

-- the path of a value, its key if it is an entry of a table, and the value
abbrev pub Listed : Type 0
Listed = Path × Option (List ℕ × Span) × Node

abbrev pub seen : Visited → Listed
seen visited = (map step_of visited.path.items, option_map (λ k. key_of k.now) visited.key, view visited.value.now)

-- The value with its path `path` and its key k, which may be None; then all values inside it, with their paths and
-- keys. Each value comes before those inside it.
abbrev mutual
  pub nodes_from : Path → Option (List ℕ × Span) → Node → List Listed
  nodes_from path k (node i span) = (path, k, node i span) ∷ held_nodes path i

  pub held_nodes : Path → Inner → List Listed
  held_nodes path taken = []
  held_nodes path (scalar s) = []
  held_nodes path (array ns) = items_nodes path 0 ns
  held_nodes path (table ms) = members_nodes path ms

  -- the same for the elements of the array at this path, the first of which is at position i
  pub items_nodes : Path → ℕ → Items → List Listed
  items_nodes path i no_items = []
  items_nodes path i (item n ns) = nodes_from (path ++ position i ∷ []) None n ++ items_nodes path (suc i) ns

  pub members_nodes : Path → Members → List Listed
  members_nodes path no_members = []
  members_nodes path (member name span n ms) =
      nodes_from (path ++ key name ∷ []) (Some (name, span)) n ++ members_nodes path ms
