-- Whether a tree is another one with a change made. Spans are ignored.
use Rattle.std.specs.Prelude.{◌≡◌, ℕ, zero, suc, List, [], ◌∷◌, Bool, true, false, ◌&&◌, ◌||◌, if◌then◌else◌}
use Rattle.std.specs.Prelude.{Option, Some, None, codes, is_some, option_and_then}
use Rattle.std.specs.Borrow.{Bor}
use Rattle.std.specs.Cow.{cow_str_bytes}
use Rattle.std.specs.Str.{bytes_eq}
use Rattle.toml_span_lex.specs.declared.key.Key.{Key}
use Rattle.toml_span_tree.specs.Node.{Node, Inner, array, table, Items, no_items, item, Members}
use Rattle.toml_span_tree.specs.Node.{no_members, member, get_member, get_item}
use Rattle.toml_span_tree.specs.Pointer.{position_of}
use Rattle.toml_span_tree.specs.Value.{inner_of, members_view, view}
use Rattle.toml_span_tree.specs.declared.value.Value.{Value}
use Rattle.toml_span_edit.specs.Same.{same, same_items, same_members}
use Rattle.toml_span_edit.specs.declared.made.Local.{Local}
use Rattle.toml_span_edit.specs.declared.made.Local.TheVariants as locals

-- ---- segments

-- the value that the segment selects: in a table the value of the entry with this name, in an array the element at the
-- position that the segment spells
abbrev pub child : List ℕ → Inner → Option Node
child segment (array ns) = option_and_then (λ i. get_item i ns) (position_of segment)
child segment (table ms) = get_member segment ms
child segment _ = None

abbrev pub both : (Node → Node → Bool) → Option Node → Option Node → Bool
both related (Some n) (Some k) = related n k
both related _ _ = false

abbrev pub at_position : (ℕ → Bool) → Option ℕ → Bool
at_position holds None = false
at_position holds (Some i) = holds i

-- ---- equal except for one value

-- whether two arrays have an element at this position, and their other elements are the same
abbrev pub items_but : ℕ → Items → Items → Bool
items_but zero (item n ns) (item k ks) = same_items ns ks
items_but (suc i) (item n ns) (item k ks) = same n k && items_but i ns ks
items_but _ _ _ = false

-- whether two tables have the same names, and the same values except for the entries with this name
abbrev pub members_but : List ℕ → Members → Members → Bool
members_but name no_members no_members = true
members_but name (member one span n ms) (member other place k ks) =
    bytes_eq one other && ((bytes_eq name one || same n k) && members_but name ms ks)
members_but name _ _ = false

-- whether two tables or two arrays are equal except for the value that the segment selects
abbrev pub same_but : List ℕ → Inner → Inner → Bool
same_but segment (array ns) (array ks) = at_position (λ i. items_but i ns ks) (position_of segment)
same_but segment (table ms) (table ks) = members_but segment ms ks
same_but segment _ _ = false

-- ---- one value removed

-- whether the second list of elements is the first without the element at this position
abbrev pub item_gone : ℕ → Items → Items → Bool
item_gone zero (item n ns) ks = same_items ns ks
item_gone (suc i) (item n ns) (item k ks) = same n k && item_gone i ns ks
item_gone _ _ _ = false

-- the entries of a table whose names differ from this name
abbrev pub without : List ℕ → Members → Members
without name no_members = no_members
without name (member other span n ms) =
    if bytes_eq name other then without name ms else member other span n (without name ms)

-- whether the second value is the first without the entry or element that the segment selects
abbrev pub gone : List ℕ → Inner → Inner → Bool
gone segment (array ns) (array ks) = at_position (λ i. item_gone i ns ks) (position_of segment)
gone segment (table ms) (table ks) = is_some (get_member segment ms) && same_members (without segment ms) ks
gone segment _ _ = false

-- whether the node `k` is the node `n` without the entry or element that the segment selects
abbrev pub lacks : List ℕ → Node → Node → Bool
lacks segment n k = gone segment (inner_of n) (inner_of k)

-- ---- one value added

-- The second node is the first with this value added: in a table as the entry that the segment names, in an array as
-- the element at the position that the segment spells.
abbrev pub put : List ℕ → Node → Node → Node → Bool
put segment w n k = lacks segment k n && both same (Some w) (child segment (inner_of k))

-- whether the second list of elements is the first with this element added at the end
abbrev pub item_last : Node → Items → Items → Bool
item_last w no_items (item k no_items) = same w k
item_last w (item n ns) (item k ks) = same n k && item_last w ns ks
item_last w _ _ = false

abbrev pub last : Node → Inner → Inner → Bool
last w (array ns) (array ks) = item_last w ns ks
last w _ _ = false

-- whether the second table is the first with the entry `name` renamed to `new`
abbrev pub renamed : List ℕ → List ℕ → Inner → Inner → Bool
renamed name new (table ms) (table ks) =
    both same (get_member name ms) (get_member new ks) && same_members (without name ms) (without new ks)
renamed name new _ _ = false

-- whether the table `k` is the table `n` with the entry `name` renamed to `new`
abbrev pub renames : List ℕ → List ℕ → Node → Node → Bool
renames name new n k = renamed name new (inner_of n) (inner_of k)

-- ---- at a path

-- The two trees are equal except for the values at the path, and `related` holds for these values.
abbrev pub at : List (List ℕ) → (Node → Node → Bool) → Node → Node → Bool
at [] related n k = related n k
at (segment ∷ path) related n k =
    same_but segment (inner_of n) (inner_of k)
    && both (at path related) (child segment (inner_of n)) (child segment (inner_of k))

abbrev pub only_item : Items → Option Node
only_item (item n no_items) = Some n
only_item _ = None

-- the only element of an array
abbrev pub only_element : Inner → Option Node
only_element (array ns) = only_item ns
only_element _ = None

-- the value of the only entry of a table, if the entry has this name
abbrev pub only_entry : List ℕ → Inner → Option Node
only_entry name (table (member other span n no_members)) = if bytes_eq name other then Some n else None
only_entry name _ = None

abbrev pub within : (Node → Bool) → Option Node → Bool
within holds None = false
within holds (Some n) = holds n

-- Whether the second value is the first inside nested tables and arrays: for each name, a table whose only entry has
-- this name or, for `0`, an array with one element.
abbrev pub is_nested : List (List ℕ) → Node → Node → Bool
is_nested [] w k = same w k
is_nested (name ∷ names) w k =
    within (is_nested names w)
    (if bytes_eq name (codes "0") then only_element (inner_of k) else only_entry name (inner_of k))

abbrev pub added_at : (Node → Node → Bool) → (Node → Bool) → List ℕ → Node → Node → Option Node → Option Node → Bool
added_at below new segment n k (Some m) (Some l) = same_but segment (inner_of n) (inner_of k) && below m l
added_at below new segment n k None (Some l) = lacks segment k n && new l
added_at below new segment n k _ None = false

-- The second tree is the first with the value `w` at the path, where the first has no value, and with the tables and
-- arrays that were missing on the way.
abbrev pub added : List (List ℕ) → Node → Node → Node → Bool
added [] w n k = false
added (segment ∷ path) w n k =
    added_at (added path w) (is_nested path w) segment n k (child segment (inner_of n)) (child segment (inner_of k))

-- ---- for the code

-- whether the second node is the first with this change made
abbrev pub local : Local → Node → Node → Bool
local (locals.Set w) n k = same (view w.now) k
local (locals.Gone segment) n k = lacks segment.now n k
local (locals.Put segment w) n k = put segment.now (view w.now) n k
local (locals.Last w) n k = last (view w.now) (inner_of n) (inner_of k)
local (locals.Renamed name new) n k = renames name.now new.now n k

-- The third argument is the first entry in `before` that has another name than `name`, and `after` has the entries that
-- follow it. The third argument is None if all entries in `before` have the name `name`.
abbrev pub IsNext : List ℕ → List (Key × Value) → Option (Bor Key × Bor Value) → List (Key × Value) → Type 0
IsNext name before None after = without name (members_view before) ≡ no_members
IsNext name before (Some e) after =
    without name (members_view before)
    ≡ member (cow_str_bytes e.0.now.name) e.0.now.span (view e.1.now) (without name (members_view after))
