-- The number of parts of a node, which bounds the depth of a walk. It is the measure for recursions over a tree in the
-- crates above, where the checker knows no measure of a value.
use Rattle.toml_span_lex.proofs.Common.{common_steps, nat_tests, ◌≡◌, ◌≤◌, ◌<◌, ℕ, suc, ◌+◌, List, ◌∷◌, drop, length, get_or, arith}
use Rattle.toml_span_lex.specs.declared.key.Key.{Key}
use Rattle.toml_span_tree.specs.declared.value.Value.{Value}
use Rattle.toml_span_tree.specs.Node.{Node, node, Inner, taken, scalar, array, table, Items, no_items, item, Members, no_members, member}
use Rattle.toml_span_tree.specs.Value.{items_view, members_view}

abbrev mutual
  pub node_size : Node → ℕ
  node_size (node i span) = suc (inner_size i)

  pub inner_size : Inner → ℕ
  inner_size taken = 0
  inner_size (scalar s) = 0
  inner_size (array ns) = suc (items_size ns)
  inner_size (table ms) = suc (members_size ms)

  pub items_size : Items → ℕ
  items_size no_items = 0
  items_size (item n ns) = node_size n + items_size ns

  pub members_size : Members → ℕ
  members_size no_members = 0
  members_size (member name key n ms) = node_size n + members_size ms

-- the elements from `i + 1` on have no more parts than those from `i` on
pub items_size-next : (i : ℕ) (es : List Value) (e : Value) (all : ℕ) →
    i < length es → get_or es i e ≡ e → items_size (items_view (drop i es)) ≤ all →
    items_size (items_view (drop (i + 1) es)) ≤ all
items_size-next i es e all below here before = grind (arith, nat_tests, common_steps)

-- the entries after the first have no more parts than all entries
pub members_size-next : (es rest : List (Key × Value)) (key : Key) (value : Value) (all : ℕ) →
    es ≡ (key, value) ∷ rest → members_size (members_view es) ≤ all → members_size (members_view rest) ≤ all
members_size-next es rest key value all split before = grind (arith, nat_tests, common_steps)
