-- Which value of a tree a pointer names, and the tree after that value was replaced.
use Rattle.std.specs.Prelude.{◌≡◌, ⊤, ℕ, ◌&&◌, ◌||◌, ◌==◌, nat_lt, not, length, slice_index, List, [], ◌∷◌, Bool, true}
use Rattle.std.specs.Prelude.{false, if◌then◌else◌, cond, Option, Some, None, option_map, option_and_then}
use Rattle.std.specs.Str.{all_ascii_digits, bytes_eq}
use Rattle.std.specs.Str.Parse.{digits_value}
use Rattle.toml_span_lex.specs.Bytes.{slash, digit_zero}
use Rattle.toml_span_tree.specs.Node.{Node, Inner, taken, scalar, array, table}
use Rattle.toml_span_tree.specs.Value.{inner_of, is_taken}
use Rattle.toml_span_tree.specs.Path.{Step, key, position, Path, child, node_at, put}

-- decimal digits, at least one, without a sign, and without a leading zero unless it is `0`
abbrev pub is_decimal_form : List ℕ → Bool
is_decimal_form text =
    nat_lt 0 (length text) && all_ascii_digits text && (length text == 1 || not (slice_index text 0 == digit_zero))

-- the position that a segment spells; None if the segment does not have the decimal form
unfoldable pub position_of : List ℕ → Option ℕ
position_of text = if is_decimal_form text then Some (digits_value 10 text) else None

-- the step that a segment selects: a key in a table, a position in an array
abbrev pub step_named : List ℕ → Inner → Option Step
step_named segment taken = None
step_named segment (scalar s) = None
step_named segment (array ns) = option_map position (position_of segment)
step_named segment (table ms) = Some (key segment)

abbrev pub if_not_taken : Node → Option Node
if_not_taken n = cond (is_taken n) None (Some n)

-- the value to which a step leads, unless its content has been taken
abbrev pub untaken_child : Node → Step → Option Node
untaken_child n s = option_and_then if_not_taken (child s n)

-- The path that the segments select, step by step. None if it leads nowhere, or through or to a value whose content has
-- been taken.
abbrev pub path_named : List (List ℕ) → Node → Option Path
path_named [] n = Some []
path_named (segment ∷ more) n =
    option_and_then (λ s. option_and_then (λ m. option_map (λ path. s ∷ path) (path_named more m)) (untaken_child n s))
    (step_named segment (inner_of n))

abbrev pub push_front : ℕ → List (List ℕ) → List (List ℕ)
push_front x [] = (x ∷ []) ∷ []
push_front x (segment ∷ more) = (x ∷ segment) ∷ more

-- the text, split at each slash
unfoldable pub segments : List ℕ → List (List ℕ)
segments [] = [] ∷ []
segments (x ∷ xs) = if x == slash then [] ∷ segments xs else push_front x (segments xs)

-- The segments of a pointer: no segments if the pointer is empty, otherwise those after its first slash. None if the
-- text is not a pointer.
unfoldable pub pointer_segments : List ℕ → Option (List (List ℕ))
pointer_segments [] = Some []
pointer_segments (x ∷ xs) = if x == slash then Some (segments xs) else None

-- the path that a pointer names
abbrev pub pointed_path : List ℕ → Node → Option Path
pointed_path pointer n = option_and_then (λ names. path_named names n) (pointer_segments pointer)

-- the value that a pointer names
abbrev pub pointed : List ℕ → Node → Option Node
pointed pointer n = option_and_then (λ path. node_at path n) (pointed_path pointer n)

abbrev pub put_where_named : Option Path → Node → Node → Node
put_where_named None w n = n
put_where_named (Some path) w n = put path w n

-- n after w replaced the value that the pointer names; n itself if the pointer names no value
abbrev pub put_pointed : List ℕ → Node → Node → Node
put_pointed pointer w n = put_where_named (pointed_path pointer n) w n

-- whether two positions differ; true if one or both are None
abbrev pub positions_apart : Option ℕ → Option ℕ → Bool
positions_apart None o = true
positions_apart (Some i) None = true
positions_apart (Some i) (Some j) = not (i == j)

-- The segments select different values in any table or array: their bytes differ, and so do the positions that they
-- spell, if both spell one.
abbrev pub segments_apart : List ℕ → List ℕ → Bool
segments_apart segment other = not (bytes_eq segment other) && positions_apart (position_of segment) (position_of other)

-- For some n, both lists have an n-th segment, and the two differ. All later segments may be anything.
abbrev pub paths_diverge : List (List ℕ) → List (List ℕ) → Bool
paths_diverge [] others = false
paths_diverge (segment ∷ more) [] = false
paths_diverge (segment ∷ more) (other ∷ others) =
    if bytes_eq segment other then paths_diverge more others else segments_apart segment other

abbrev pub paths_diverge_if_any : Option (List (List ℕ)) → Option (List (List ℕ)) → Bool
paths_diverge_if_any None o = false
paths_diverge_if_any (Some names) None = false
paths_diverge_if_any (Some names) (Some others) = paths_diverge names others

-- For some n, both pointers have an n-th segment, and the two differ. So neither pointer names the value that the other
-- names, or a value inside that value.
abbrev pub pointers_diverge : List ℕ → List ℕ → Bool
pointers_diverge pointer other = paths_diverge_if_any (pointer_segments pointer) (pointer_segments other)

-- The segments name the steps of the path, one by one: a key by its name, a position by its decimal form.
abbrev pub NamesPath : List (List ℕ) → Path → Type 0
NamesPath [] [] = ⊤
NamesPath [] (s ∷ path) = ⊥
NamesPath (segment ∷ names) [] = ⊥
NamesPath (segment ∷ names) (key name ∷ path) = (segment ≡ name) × NamesPath names path
NamesPath (segment ∷ names) (position i ∷ path) = (position_of segment ≡ Some i) × NamesPath names path

-- The pointer names m in n: its segments name the path of m. Unless the path is empty, the content of m has not been
-- taken.
abbrev pub IsPointed : List ℕ → Node → Node → Type 0
IsPointed pointer n m =
    (names : List (List ℕ)) × (path : Path) × (pointer_segments pointer ≡ Some names) × NamesPath names path
    × (node_at path n ≡ Some m) × (is_taken m ≡ true → path ≡ [])
