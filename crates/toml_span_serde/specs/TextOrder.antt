-- A tree with each table's entries in the order in which their keys start in the text. Entries whose keys start at the
-- same offset keep their order.
use Rattle.std.specs.Prelude.{ℕ, List, nat_lt, if◌then◌else◌}
use Rattle.toml_span_lex.specs.declared.span.Span.{Span}
use Rattle.toml_span_tree.specs.Node.{Node, node, Inner, taken, scalar, array, table, Items, no_items, item}
use Rattle.toml_span_tree.specs.Node.{Members, no_members, member}

-- the entries and one more, inserted before the first entry whose key does not start earlier in the text
abbrev pub put_entry : List ℕ → Span → Node → Members → Members
put_entry name at n no_members = member name at n no_members
put_entry name at n (member other there m ms) =
    if nat_lt there.start at.start then member other there m (put_entry name at n ms)
    else member name at n (member other there m ms)

abbrev mutual
  pub in_text_order : Node → Node
  in_text_order (node i span) = node (inner_in_order i) span

  pub inner_in_order : Inner → Inner
  inner_in_order taken = taken
  inner_in_order (scalar s) = scalar s
  inner_in_order (array ns) = array (items_in_order ns)
  inner_in_order (table ms) = table (members_in_order ms)

  pub items_in_order : Items → Items
  items_in_order no_items = no_items
  items_in_order (item n ns) = item (in_text_order n) (items_in_order ns)

  pub members_in_order : Members → Members
  members_in_order no_members = no_members
  members_in_order (member name at n ms) = put_entry name at (in_text_order n) (members_in_order ms)
