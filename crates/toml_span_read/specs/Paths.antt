-- Paths, and the path that a header names.
use Rattle.std.specs.Prelude.{ℕ, zero, suc, Bool, true, false, ◌&&◌, nat_eq, if◌then◌else◌, List, [], ◌∷◌, ◌++◌, filter}
use Rattle.std.specs.Prelude.{length}
use Rattle.std.specs.Str.{bytes_eq}
use Rattle.toml_span_tree.specs.Path.{Step, key, position, Path}
use Rattle.toml_span_read.specs.Data.{SimpleKey, ParsedSection}

abbrev pub same_step : Step → Step → Bool
same_step (key name) (key other) = bytes_eq name other
same_step (position i) (position j) = nat_eq i j
same_step (key name) (position j) = false
same_step (position i) (key other) = false

unfoldable pub same_path : Path → Path → Bool
same_path [] [] = true
same_path [] (t ∷ q) = false
same_path (s ∷ p) [] = false
same_path (s ∷ p) (t ∷ q) = same_step s t && same_path p q

-- the path p, followed by the key k
abbrev pub with_key : Path → SimpleKey → Path
with_key p k = p ++ (key k.name ∷ [])

-- the path p, followed by the position i
abbrev pub with_position : Path → ℕ → Path
with_position p i = p ++ (position i ∷ [])

-- how often the path p occurs in the list: the number of elements added to the array of tables at p
abbrev pub elements_added : List Path → Path → ℕ
elements_added opened p = length (filter (λ q. same_path q p) opened)

-- the path of the latest element of an array of tables at p that has n elements, or p itself if n is 0
unfoldable pub enter : ℕ → Path → Path
enter zero p = p
enter (suc latest) p = with_position p latest

-- The path of a header, whose parts lead on from the path p. It leads through the latest element of each array of
-- tables on the way, but does not include the position of an element that the header adds. `counts` is the number of
-- elements that each array of tables has so far.
unfoldable pub target : (Path → ℕ) → Path → List SimpleKey → Path
target counts p [] = p
target counts p (k ∷ []) = with_key p k
target counts p (k ∷ l ∷ more) = target counts (enter (counts (with_key p k)) (with_key p k)) (l ∷ more)

-- For each section whose header has double brackets, the path of the array to which it adds an element. Both lists have
-- the latest section first.
unfoldable pub opened_by : List ParsedSection → List Path
opened_by [] = []
opened_by (b ∷ earlier) =
    let before = opened_by earlier in
    if b.array then target (elements_added before) [] b.header ∷ before else before

-- The path of the table that a section fills: the path of its header, followed by the position of the new element if
-- the header has double brackets.
abbrev pub section_path : (Path → ℕ) → ParsedSection → Path
section_path counts b =
    let p = target counts [] b.header in
    if b.array then with_position p (counts p) else p
