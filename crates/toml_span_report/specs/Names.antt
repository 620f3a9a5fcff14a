-- The name that a misspelled word probably means.
use Rattle.std.specs.Prelude.{ℕ, ◌+◌, ◌/◌, Bool, ◌&&◌, nat_le, List, length, Option}
use Rattle.std.specs.List.{find, list_all}
use Rattle.std.specs.Str.{chars}
use Rattle.strsim.specs.Edits.{osa_table}

-- the number of edits that turn the word into the name; an edit inserts, removes or replaces a character, or swaps two
-- neighbors
unfoldable pub distance : List ℕ → List ℕ → ℕ
distance word name = (osa_table (chars word) (chars name)).last_row (length (chars name))

-- the highest distance at which a name is near enough: a third of the number of characters in the word, rounded
unfoldable pub reach : List ℕ → ℕ
reach word = (length (chars word) + 1) / 3

-- whether a name is near enough, and no other is nearer
abbrev pub is_nearest : List ℕ → List (List ℕ) → List ℕ → Bool
is_nearest word names name =
    nat_le (distance word name) (reach word)
    && list_all (λ other. nat_le (distance word name) (distance word other)) names

-- the first of the nearest names, or None if no name is near enough
abbrev pub nearest : List ℕ → List (List ℕ) → Option (List ℕ)
nearest word names = find (is_nearest word names) names
