-- The path to each piece of a row, and the number of elements that have ended in the innermost open array. A way is a
-- path in reverse, from its last step to its first.
use Rattle.std.specs.Prelude.{ℕ, ◌+◌, List, [], ◌∷◌, map, reverse}
use Rattle.toml_span_tree.specs.Path.{Step, key, position}
use Rattle.toml_span_serde.specs.Pieces as row
use Rattle.toml_span_serde.specs.declared.path.Down.{Down}
use Rattle.toml_span_serde.specs.declared.path.Down.TheVariants as down

abbrev pub Way : Type 0
Way = List Step

-- the way without its last step
abbrev pub outer : Way → Way
outer [] = []
outer (s ∷ way) = way

-- the way after a value: to the next element, or out of the entry
abbrev pub ended : Way → Way
ended [] = []
ended (key name ∷ way) = way
ended (position i ∷ way) = position (i + 1) ∷ way

-- the way after a piece
abbrev pub after : row.Content → Way → Way
after (row.value s) way = ended way
after row.nothing way = ended way
after row.array_begins way = position 0 ∷ way
after row.array_ends way = ended (outer way)
after row.table_begins way = way
after row.table_ends way = ended way
after (row.key name) way = key name ∷ way

-- the way after all of these pieces
abbrev pub walked : List row.Piece → Way → Way
walked [] way = way
walked (p ∷ ps) way = walked ps (after p.content way)

-- the position of the next element of an array, or 0 if the last step is a key or the way is empty
abbrev pub next_position : Way → ℕ
next_position (position i ∷ way) = i
next_position way = 0

-- the number of elements that have ended in the innermost array that is open after these pieces, or 0 if no array is
-- open or the pieces end inside an entry of a table
abbrev pub elements_in : List row.Piece → ℕ
elements_in before = next_position (walked before [])

-- the way to the value of a piece or, for a key, to the value that it names
abbrev pub way_at : row.Content → Way → Way
way_at (row.value s) way = way
way_at row.nothing way = way
way_at row.array_begins way = way
way_at row.array_ends way = outer way
way_at row.table_begins way = way
way_at row.table_ends way = way
way_at (row.key name) way = key name ∷ way

abbrev pub down_of : Down → Step
down_of (down.Key name) = key name.now
down_of (down.Position i) = position i

abbrev pub way_of : List Down → Way
way_of downs = reverse (map down_of downs)
