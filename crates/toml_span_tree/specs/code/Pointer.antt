-- Which value a pointer names, segment by segment, and how that value is replaced.
use Rattle.std.specs.Prelude.{◌≡◌, ◌≤◌, ⊤, ℕ, ◌^◌, List, [], ◌∷◌, length, ◌<◌, Option, Some, None, Result, Ok, Err}
use Rattle.std.specs.Prelude.{IfSome, option_map, option_and_then}
use Rattle.toml_span_tree.specs.declared.value.Value.{Value}
use Rattle.toml_span_tree.specs.Node.{Node, Inner, Items}
use Rattle.toml_span_tree.specs.Value.{view, inner_of}
use Rattle.toml_span_tree.specs.Path.{Step, at_step, node_at, set_element, set_at_step}
use Rattle.toml_span_tree.specs.Pointer.{step_named, if_not_taken, path_named, segments, put_where_named}

-- The first position is the second one; or it is None, and the second is None or does not fit into 64 bits.
abbrev pub PositionIs : Option ℕ → Option ℕ → Type 0
PositionIs (Some i) o = o ≡ Some i
PositionIs None None = ⊤
PositionIs None (Some i) = 2 ^ 64 ≤ i

-- the value that a segment selects
abbrev pub entry : List ℕ → Inner → Option Node
entry segment i = option_and_then (λ s. option_map (λ e. e.1) (at_step s i)) (step_named segment i)

-- the value that a segment selects in n, unless its content has been taken
abbrev pub untaken_entry : List ℕ → Node → Option Node
untaken_entry segment n = option_and_then if_not_taken (entry segment (inner_of n))

-- the value to which the segments lead
abbrev pub value_named : List (List ℕ) → Node → Option Node
value_named names n = option_and_then (λ path. node_at path n) (path_named names n)

-- n after w replaced the value to which the segments lead; n itself if they lead nowhere
abbrev pub put_named : List (List ℕ) → Node → Node → Node
put_named names w n = put_where_named (path_named names n) w n

abbrev pub set_where_named : Option Step → Node → Inner → Inner
set_where_named None w i = i
set_where_named (Some s) w i = set_at_step s w i

-- the table or array after w replaced the value that the segment selects; unchanged if the segment selects none
abbrev pub set_named : List ℕ → Node → Inner → Inner
set_named segment w i = set_where_named (step_named segment i) w i

abbrev pub set_item : Option ℕ → Node → Items → Items
set_item None w ns = ns
set_item (Some i) w ns = set_element i w ns

abbrev pub segments_after : Option (List ℕ) → List (List ℕ)
segments_after None = []
segments_after (Some rest) = segments rest

-- `path` is split at its first slash into a segment and the rest. Without a slash, the rest is None.
pub record SplitAtSlash (path segment : List ℕ) (rest : Option (List ℕ)) : Type 0 where
  pub parts : segments path ≡ segment ∷ segments_after rest
  pub shorter : IfSome rest (λ more. length more < length path)

-- Either the segments lead from o to a value, which was replaced: the result is the old value, and `changed` holds for
-- o with the new value in place of the old one. Or they lead nowhere, or o is None: the result is `Err` with the new
-- value, and `same` holds, which states that nothing changed.
abbrev pub Exchanged : Result Value Value → Value → List (List ℕ) → Option Node → (Node → Type 0) → Type 0 → Type 0
Exchanged (Ok old) new names o changed same =
    (n : Node) × (o ≡ Some n) × (value_named names n ≡ Some (view old)) × changed (put_named names (view new) n)
Exchanged (Err back) new names o changed same = (back ≡ new) × (option_and_then (value_named names) o ≡ None) × same
