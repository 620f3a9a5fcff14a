-- What edits do to a document: to its tree, and to its text.
use Rattle.std.specs.Prelude.{◌≡◌, ℕ, List, [], ◌∷◌, ◌++◌, map, Bool, true, Some, codes, ◌⊎◌}
use Rattle.toml_span_read.specs.Data.{depth_limit}
use Rattle.toml_span_tree.specs.Node.{Node}
use Rattle.toml_span_tree.specs.Value.{inner_of, view}
use Rattle.toml_span_tree.specs.declared.value.Value.{Value}
use Rattle.toml_span.specs.Parsing.{IsTree}
use Rattle.toml_span_edit.specs.Same.{same}
use Rattle.toml_span_edit.specs.Kept.{Keeps}
use Rattle.toml_span_edit.specs.Made.{child, lacks, put, last, renames, at, added}
use Rattle.toml_span_edit.specs.Paths.{Path, Splits, found}
use Rattle.toml_span_edit.specs.declared.edits.Change.{Change}
use Rattle.toml_span_edit.specs.declared.edits.Change.TheVariants as changes
use Rattle.toml_span_edit.specs.declared.edits.Edit.{Edit}
use Rattle.toml_span_edit.specs.declared.step.Destination.{Destination}
use Rattle.toml_span_edit.specs.declared.step.Destination.TheVariants as destinations

-- ---- values

-- `v = ` followed by the text is a document, in which `v` has the value `w`.
abbrev pub Spells : List ℕ → Node → Type 0
Spells text w =
    (root : Value) × IsTree (codes "v = " ++ text) depth_limit root
    × (child (codes "v") (inner_of (view root)) ≡ Some w)

-- Both texts are documents, and their trees are equal except for spans.
abbrev pub IsSameDocument : List ℕ → List ℕ → Type 0
IsSameDocument text new =
    (root result : Value) × IsTree text depth_limit root × IsTree new depth_limit result
    × (same (view root) (view result) ≡ true)

-- ---- one edit

-- whether the tree `k` is the tree `n` with the value `w` at this destination: in place of the whole tree, under a name
-- or position, or after the last element
abbrev pub is_placed : Destination → Node → Node → Node → Bool
is_placed destinations.Here w n k = same w k
is_placed (destinations.Under segment) w n k = put segment.now w n k
is_placed destinations.End w n k = last w (inner_of n) (inner_of k)

-- The trees `n` and `k` are equal except for their values at the path. `related w` holds for these two values, where
-- `w` is the value that the text spells.
abbrev pub IsPlaced : (Node → Node → Node → Bool) → List ℕ → Path → Node → Node → Type 0
IsPlaced related text path n k = (w : Node) × Spells text w × (at path (related w) n k ≡ true)

-- The tree `k` is the tree `n` with the value that the text spells added at the path, where `n` has no value, and with
-- the tables and arrays that were missing on the way.
abbrev pub IsNew : List ℕ → Path → Node → Node → Type 0
IsNew text path n k = (w : Node) × Spells text w × (added path w n k ≡ true)

-- The tree `k` is the tree `n` without the value at the path.
abbrev pub IsGone : Path → Node → Node → Type 0
IsGone path n k =
    (front : Path) × (name : List ℕ) × Splits path front name × (at front (lacks name) n k ≡ true)

-- The tree `k` is the tree `n` with the key at the path renamed to `new`.
abbrev pub IsRenamed : List ℕ → Path → Node → Node → Type 0
IsRenamed new path n k =
    (front : Path) × (name : List ℕ) × Splits path front name × (at front (renames name new) n k ≡ true)

-- The tree `k` is the tree `n` with the value that the text spells added to an existing table or array. The last
-- segment of the path is the value's name or position; the other segments name the table or array.
abbrev pub IsUnder : List ℕ → Path → Node → Node → Type 0
IsUnder text path n k =
    (front : Path) × (name : List ℕ) × Splits path front name × IsPlaced (put name) text front n k

-- The tree `k` is the tree `n` with the value `w` added at the path: inserted as an element, or added as an entry, with
-- the tables and arrays that were missing on the way.
abbrev pub IsPut : Path → Node → Node → Node → Type 0
IsPut path w n k =
    ((front : Path) × (name : List ℕ) × Splits path front name × (at front (put name w) n k ≡ true))
    ⊎ (added path w n k ≡ true)

-- The tree `k` is the tree `n` with the change made at the path.
abbrev pub Makes : Change → Path → Node → Node → Type 0
Makes (changes.Set v) path n k = IsPlaced (is_placed destinations.Here) v.now path n k
Makes (changes.Replace v) path n k = IsPlaced (is_placed destinations.Here) v.now path n k
Makes (changes.SetOrAdd v) path n k = IsNew v.now path n k ⊎ IsPlaced (is_placed destinations.Here) v.now path n k
Makes (changes.Rename new) path n k = IsRenamed new.now path n k
Makes changes.Remove path n k = IsGone path n k
Makes (changes.Add v) path n k = IsUnder v.now path n k
Makes changes.AddTable path n k = IsNew (codes "{}") path n k
Makes (changes.Append v) path n k =
    IsNew (codes "[" ++ (v.now ++ codes "]")) path n k ⊎ IsPlaced (is_placed destinations.End) v.now path n k
Makes (changes.Insert v) path n k = IsUnder v.now path n k
Makes (changes.MoveTo target) path n k =
    (w mid : Node) × (found path n ≡ Some w) × IsGone path n mid × IsPut (map (λ s. s.now) target.now) w mid k

-- The text `new` is a document, and its tree is `n` with the change made at the path.
abbrev pub IsMade : Change → Path → Node → List ℕ → Type 0
IsMade change path n new = (root : Value) × IsTree new depth_limit root × Makes change path n (view root)

-- The text `new` is a document, and its tree is `n` with the value `w` added at the path.
abbrev pub IsPutBack : Path → Node → Node → List ℕ → Type 0
IsPutBack path w n new = (root : Value) × IsTree new depth_limit root × IsPut path w n (view root)

-- The text `new` is a document, and its tree is `n` with `w`, the value at `path`, moved to `target`.
abbrev pub IsMoved : Path → Path → Node → Node → List ℕ → Type 0
IsMoved target path w n new = (mid : Node) × IsGone path n mid × IsPutBack target w mid new

-- Both texts are documents, and the tree of the second is the tree of the first with this edit made. The bytes that the
-- edit must keep (see `Keeps`) are the same.
abbrev pub EditMade : Edit → List ℕ → List ℕ → Type 0
EditMade e text new =
    (root : Value) × IsTree text depth_limit root
    × IsMade e.change (map (λ s. s.now) e.path.now) (view root) new
    × Keeps e.change (map (λ s. s.now) e.path.now) (view root) text new

-- ---- several edits

-- The text `new` is `text` with the edits made one after the other.
abbrev pub EditsMade : List Edit → List ℕ → List ℕ → Type 0
EditsMade [] text new = new ≡ text
EditsMade (e ∷ es) text new = (mid : List ℕ) × EditMade e text mid × EditsMade es mid new
