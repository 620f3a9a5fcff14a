-- The lines of a tree are those of its entries.
use Rattle.toml_span_lex.proofs.Common.{arith, nat_tests, common_steps, ◌≡◌, ℕ, suc, true, List, [], ◌∷◌, ◌++◌, Option, Some, None, flat_map, refl, false≢true, and_parts}
use Rattle.std.proofs.lemmas.List.{append-nil}
use Rattle.toml_span_lex.specs.declared.span.Span.{Span}
use Rattle.toml_span_tree.specs.Node.{Node, node, Inner, taken, scalar, array, table, Items, no_items, item, Members, no_members, member}
use Rattle.toml_span_tree.specs.Path.{Step, key, position}
use Rattle.toml_span_tree.specs.Value.{is_whole, all_whole, all_members_whole, kind_name}
use Rattle.toml_span_lines.specs.Lines.{line, node_lines, items_lines, members_lines, position_segment, key_segment}
use Rattle.toml_span_lines.specs.Shown.{PlaceAt, segment, shape_name, entry_line}
use Rattle.toml_span_lines.proofs.Entries.{under, node_entries, items_entries, members_entries}

-- the line of an entry below a path
abbrev line_below : List ℕ → PlaceAt → List ℕ
line_below path e = line (path ++ flat_map segment e.0) (shape_name e.1.shape) e.1.span.start e.1.span.end

lines-under : (path : List ℕ) (s : Step) (es : List PlaceAt) → flat_map (line_below (path ++ segment s)) es ≡ flat_map (line_below path) (under s es)
lines-under path s [] = refl
lines-under path s (e ∷ es) = grind (arith, nat_tests, common_steps, lines-under path s es)

-- the lines below a step, followed by others
joined : (path lines more : List ℕ) (s : Step) (es fs : List PlaceAt) → lines ≡ flat_map (line_below (path ++ segment s)) es → more ≡ flat_map (line_below path) fs →
    lines ++ more ≡ flat_map (line_below path) (under s es ++ fs)
joined path lines more s es fs h g = grind (arith, nat_tests, common_steps, lines-under path s es)

-- the line of a node itself
own : (path lines more : List ℕ) (i : Inner) (span : Span) → lines ≡ more →
    line path (kind_name i) span.start span.end ++ lines ≡ line (path ++ []) (kind_name i) span.start span.end ++ more
own path lines more i span h = grind (arith, common_steps, append-nil path)

mutual
  node-lines : (path : List ℕ) (at : Option Span) (n : Node) → is_whole n ≡ true → node_lines path n ≡ flat_map (line_below path) (node_entries at n)
  node-lines path at (node taken span) h = absurd (false≢true h)
  node-lines path at (node (scalar s) span) h = own path [] [] (scalar s) span refl
  node-lines path at (node (array ns) span) h = own path (items_lines path 0 ns) (flat_map (line_below path) (items_entries 0 ns)) (array ns) span (items-lines path 0 ns h)
  node-lines path at (node (table ms) span) h = own path (members_lines path ms) (flat_map (line_below path) (members_entries ms)) (table ms) span (members-lines path ms h)

  items-lines : (path : List ℕ) (i : ℕ) (ns : Items) → all_whole ns ≡ true → items_lines path i ns ≡ flat_map (line_below path) (items_entries i ns)
  items-lines path i no_items h = refl
  items-lines path i (item n ns) h =
      let both = and_parts (is_whole n) (all_whole ns) h in
      joined path (node_lines (path ++ position_segment i) n) (items_lines path (suc i) ns) (position i) (node_entries None n) (items_entries (suc i) ns)
      (node-lines (path ++ position_segment i) None n both.0) (items-lines path (suc i) ns both.1)

  members-lines : (path : List ℕ) (ms : Members) → all_members_whole ms ≡ true → members_lines path ms ≡ flat_map (line_below path) (members_entries ms)
  members-lines path no_members h = refl
  members-lines path (member name at n ms) h =
      let both = and_parts (is_whole n) (all_members_whole ms) h in
      joined path (node_lines (path ++ key_segment name) n) (members_lines path ms) (key name) (node_entries (Some at) n) (members_entries ms)
      (node-lines (path ++ key_segment name) (Some at) n both.0) (members-lines path ms both.1)

pub tree-lines : (n : Node) → is_whole n ≡ true → node_lines [] n ≡ flat_map entry_line (node_entries None n)
tree-lines n h = node-lines [] None n h
