-- Trees in which the names in each table ascend, and trees in which no name occurs twice in a table.
use Rattle.std.specs.Prelude.{◌≡◌, ⊤, ℕ, List, None}
use Rattle.std.specs.Cmp.Lexicographic.{slice_cmp}
use Rattle.std.specs.Ordering.{nat_cmp}
use Rattle.std.specs.declared.cmp.Ordering.TheVariants as orderings
use Rattle.toml_span_tree.specs.Node.{Members, no_members, member, Node, node, Inner, taken, scalar, array, table}
use Rattle.toml_span_tree.specs.Node.{Items, no_items, item, entry_at}

-- The name is before the other one in lexicographic order. The bytes at the first position where the two differ decide.
-- A name is before a longer one that begins with it.
abbrev pub IsNameBefore : List ℕ → List ℕ → Type 0
IsNameBefore name other = slice_cmp nat_cmp name other ≡ orderings.Less

-- P holds for each name.
abbrev pub EachName : (List ℕ → Type 0) → Members → Type 0
EachName P no_members = ⊤
EachName P (member name at n ms) = P name × EachName P ms

-- In each table, each name comes before all later ones.
abbrev mutual
  pub IsOrdered : Node → Type 0
  IsOrdered (node i span) = HoldsOrdered i

  pub HoldsOrdered : Inner → Type 0
  HoldsOrdered taken = ⊤
  HoldsOrdered (scalar s) = ⊤
  HoldsOrdered (array ns) = AreOrdered ns
  HoldsOrdered (table ms) = MembersOrdered ms

  pub AreOrdered : Items → Type 0
  AreOrdered no_items = ⊤
  AreOrdered (item n ns) = IsOrdered n × AreOrdered ns

  pub MembersOrdered : Members → Type 0
  MembersOrdered no_members = ⊤
  MembersOrdered (member name at n ms) = EachName (IsNameBefore name) ms × IsOrdered n × MembersOrdered ms

-- ---- each name once, in any order

-- No name occurs twice in a table of the tree.
abbrev mutual
  pub HasOneEach : Node → Type 0
  HasOneEach (node i span) = InnerHasOneEach i

  pub InnerHasOneEach : Inner → Type 0
  InnerHasOneEach taken = ⊤
  InnerHasOneEach (scalar s) = ⊤
  InnerHasOneEach (array ns) = ItemsHaveOneEach ns
  InnerHasOneEach (table ms) = MembersHaveOneEach ms

  pub ItemsHaveOneEach : Items → Type 0
  ItemsHaveOneEach no_items = ⊤
  ItemsHaveOneEach (item n ns) = HasOneEach n × ItemsHaveOneEach ns

  pub MembersHaveOneEach : Members → Type 0
  MembersHaveOneEach no_members = ⊤
  MembersHaveOneEach (member name at n ms) = (entry_at name ms ≡ None) × HasOneEach n × MembersHaveOneEach ms
