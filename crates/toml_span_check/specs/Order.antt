-- A tree with each table's entries in the order of their names, or in the order in which their keys start in the text.
use Rattle.std.specs.Prelude.{ℕ, Bool, ◌&&◌, not, List, nat_lt, if◌then◌else◌}
use Rattle.toml_span_lex.specs.declared.span.Span.{Span}
use Rattle.toml_span_tree.specs.Node.{Node, node, Inner, taken, scalar, array, table, Items, no_items, item}
use Rattle.toml_span_tree.specs.Node.{Members, no_members, member}

-- The entries and one more, whose name comes before theirs. It is inserted before the first entry whose key does not
-- start earlier in the text or, if entries are sorted by their names, before all.
abbrev pub put_entry : Bool → List ℕ → Span → Node → Members → Members
put_entry is_sorted name at n no_members = member name at n no_members
put_entry is_sorted name at n (member other there m ms) =
    if not is_sorted && nat_lt there.start at.start then member other there m (put_entry is_sorted name at n ms)
    else member name at n (member other there m ms)

abbrev mutual
  pub in_order : Bool → Node → Node
  in_order is_sorted (node i span) = node (inner_in_order is_sorted i) span

  pub inner_in_order : Bool → Inner → Inner
  inner_in_order is_sorted taken = taken
  inner_in_order is_sorted (scalar s) = scalar s
  inner_in_order is_sorted (array ns) = array (items_in_order is_sorted ns)
  inner_in_order is_sorted (table ms) = table (members_in_order is_sorted ms)

  pub items_in_order : Bool → Items → Items
  items_in_order is_sorted no_items = no_items
  items_in_order is_sorted (item n ns) = item (in_order is_sorted n) (items_in_order is_sorted ns)

  pub members_in_order : Bool → Members → Members
  members_in_order is_sorted no_members = no_members
  members_in_order is_sorted (member name at n ms) =
      put_entry is_sorted name at (in_order is_sorted n) (members_in_order is_sorted ms)
