-- Two keys of a table that name the same field.
use Rattle.std.specs.Prelude.{ℕ, ◌+◌, ◌-◌, ◌==◌, ◌&&◌, List, [], ◌∷◌, length, Option, None, Some, if◌then◌else◌}
use Rattle.std.specs.List.{list_any}
use Rattle.std.specs.Str.{bytes_eq}
use Rattle.toml_span_lex.specs.declared.span.Span.{Span}
use Rattle.toml_span_serde.specs.Pieces.{Content, Piece, value, nothing, array_begins, array_ends, table_begins}
use Rattle.toml_span_serde.specs.Pieces.{table_ends, key}
use Rattle.toml_span_serde.specs.declared.twice.KeyPlace.{KeyPlace}

-- the position of a key among the pieces, and its span
abbrev pub key_place : KeyPlace → ℕ × Span
key_place k = (k.at, k.span)

-- One step of a search backwards through the pieces. `depth` is the number of arrays and tables around the piece whose
-- ends the search has passed. `place` is the position and span of the piece, and `further` continues the search with
-- the pieces before it.
abbrev pub earlier_from : List (List ℕ) → ℕ → ℕ × Span → Content → (ℕ → Option (ℕ × Span)) → Option (ℕ × Span)
earlier_from forms depth place (value s) further = further depth
earlier_from forms depth place nothing further = further depth
earlier_from forms depth place array_ends further = further (depth + 1)
earlier_from forms depth place table_ends further = further (depth + 1)
earlier_from forms depth place array_begins further = if depth == 0 then None else further (depth - 1)
earlier_from forms depth place table_begins further = if depth == 0 then None else further (depth - 1)
earlier_from forms depth place (key s) further =
    if (depth == 0) && list_any (λ form. bytes_eq form s) forms then Some place else further depth

-- The last key that equals one of the forms, in the innermost table that is open after the pieces. The pieces are in
-- reverse order, and `depth` is 0 at the start of the search.
abbrev pub earlier : List (List ℕ) → ℕ → List Piece → Option (ℕ × Span)
earlier forms depth [] = None
earlier forms depth (p ∷ ps) = earlier_from forms depth (length ps, p.span) p.content (λ d. earlier forms d ps)
