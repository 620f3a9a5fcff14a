-- The output: a line for each value of a tree, before the lines of the values inside it, or the line of an error.
use Rattle.std.specs.Prelude.{ℕ, suc, ◌+◌, ◌/◌, ◌%◌, ◌&&◌, Bool, not, nat_le, nat_lt, nat_eq, List, [], ◌∷◌, ◌++◌}
use Rattle.std.specs.Prelude.{if◌then◌else◌, codes, unwrap_or}
use Rattle.std.specs.List.{flat_map}
use Rattle.std.specs.Fmt.{decimal}
use Rattle.toml_span_tree.specs.Error.{ErrorContent}
use Rattle.toml_span_tree.specs.Message.{code_of}
use Rattle.toml_span_tree.specs.Node.{Node, node, Inner, taken, scalar, array, table, Items, no_items, item, Members}
use Rattle.toml_span_tree.specs.Node.{no_members, member}
use Rattle.toml_span_tree.specs.Value.{holds_nothing, kind_name}

-- whether a path contains this byte unescaped: it is printable ASCII, and neither a space, a slash nor a percent sign
abbrev pub stands_for_itself : ℕ → Bool
stands_for_itself byte = (nat_le 33 byte && nat_le byte 126) && (not (nat_eq byte 47) && not (nat_eq byte 37))

abbrev pub hex_digit : ℕ → ℕ
hex_digit n = if nat_lt n 10 then 48 + n else 55 + n

-- a byte of a key, as it is or as a percent sign and two hexadecimal digits
abbrev pub shown_byte : ℕ → List ℕ
shown_byte byte = if stands_for_itself byte then byte ∷ [] else 37 ∷ hex_digit (byte / 16) ∷ hex_digit (byte % 16) ∷ []

-- a segment of a path: a slash, and then a key or a position
abbrev pub key_segment : List ℕ → List ℕ
key_segment name = 47 ∷ flat_map shown_byte name

abbrev pub position_segment : ℕ → List ℕ
position_segment i = 47 ∷ decimal i

abbrev pub shown_span : ℕ → ℕ → List ℕ
shown_span start end = decimal start ++ codes ".." ++ decimal end

-- The path of the root has no segments, and is printed as `root`.
abbrev pub shown_path : List ℕ → List ℕ
shown_path [] = codes "root"
shown_path (x ∷ xs) = x ∷ xs

abbrev pub line : List ℕ → List ℕ → ℕ → ℕ → List ℕ
line path kind start end = shown_path path ++ codes " " ++ kind ++ codes " " ++ shown_span start end ++ codes "\n"

-- The lines of the value at a path: its own, and then those of the values inside it. A value that has been taken has
-- none.
abbrev mutual
  pub node_lines : List ℕ → Node → List ℕ
  node_lines path (node i span) =
      if holds_nothing i then [] else line path (kind_name i) span.start span.end ++ held_lines path i

  pub held_lines : List ℕ → Inner → List ℕ
  held_lines path taken = []
  held_lines path (scalar s) = []
  held_lines path (array ns) = items_lines path 0 ns
  held_lines path (table ms) = members_lines path ms

  pub items_lines : List ℕ → ℕ → Items → List ℕ
  items_lines path i no_items = []
  items_lines path i (item n ns) = node_lines (path ++ position_segment i) n ++ items_lines path (suc i) ns

  pub members_lines : List ℕ → Members → List ℕ
  members_lines path no_members = []
  members_lines path (member name key n ms) = node_lines (path ++ key_segment name) n ++ members_lines path ms

-- the lines of a tree
abbrev pub tree_lines : Node → List ℕ
tree_lines n = node_lines [] n

-- the line and the column, both counted from 0
abbrev pub shown_place : ℕ × ℕ → List ℕ
shown_place place = decimal place.0 ++ codes ":" ++ decimal place.1

-- the line of an error
abbrev pub error_line : ErrorContent → List ℕ
error_line f = codes "error " ++ code_of f.kind ++ codes " " ++ shown_span f.span.start f.span.end ++ codes " "
    ++ shown_place (unwrap_or f.line_info (0, 0)) ++ codes "\n"
