-- Values at steps.
use Rattle.toml_span_lex.proofs.Common.{◌≡◌, ℕ, List, Bool, Option, Some, None, is_some, option_map, option_and_then, refl}
use Rattle.toml_span_tree.specs.Node.{Node, node, get_item, get_member, taken, scalar, array, table}
use Rattle.toml_span_tree.specs.Path.{child, key, position}
use Rattle.toml_span_tree.specs.Value.{inner_of, items_in, members_in}

-- the entry with a name
pub child_key : (name : List ℕ) (n : Node) → child (key name) n ≡ option_and_then (get_member name) (members_in (inner_of n))
child_key name (node taken span) = refl
child_key name (node (scalar s) span) = refl
child_key name (node (array ns) span) = refl
child_key name (node (table ms) span) = refl

-- the element at a position
pub child_position : (at : ℕ) (n : Node) → child (position at) n ≡ option_and_then (get_item at) (items_in (inner_of n))
child_position at (node taken span) = refl
child_position at (node (scalar s) span) = refl
child_position at (node (array ns) span) = refl
child_position at (node (table ms) span) = refl

pub is_some_map : {A B : Type 0} (f : A → B) (o : Option A) → is_some (option_map f o) ≡ is_some o
is_some_map f None = refl
is_some_map f (Some x) = refl
