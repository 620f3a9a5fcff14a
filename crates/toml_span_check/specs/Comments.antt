-- The comments of a text, with those of other languages as they are after a fix.
use Rattle.std.specs.Prelude.{ℕ, ◌+◌, min, Bool, true, false, ◌&&◌, ◌||◌, nat_eq, nat_lt, List, [], ◌∷◌, ◌++◌}
use Rattle.std.specs.Prelude.{codes, drop, length, slice_range, if◌then◌else◌}
use Rattle.std.specs.List.{starts_with}
use Rattle.toml_span_check.specs.declared.comments.Place.{Place}
use Rattle.toml_span_syntax.specs.FaultyStrings.{line_stop}
use Rattle.toml_span_syntax.specs.Statements.{is_line_end}
use Rattle.toml_span_syntax.specs.declared.pieces.Kind.{Kind}
use Rattle.toml_span_syntax.specs.declared.pieces.Kind.TheVariants as kinds
use Rattle.toml_span_syntax.specs.declared.pieces.Piece.{Piece}

abbrev pub is_comment : Kind → Bool
is_comment kinds.Comment = true
is_comment _ = false

abbrev pub is_invalid : Kind → Bool
is_invalid kinds.Invalid = true
is_invalid _ = false

abbrev pub is_blank : Kind → Bool
is_blank kinds.Blank = true
is_blank _ = false

-- The length of the marker, if the piece begins a comment of another language: a `;` that is the first of its line, or
-- a `//` after a blank or at the start of a line. 0 for any other piece.
abbrev pub marker : List ℕ → Piece → Bool → Bool → ℕ
marker text piece first spaced =
    if is_invalid piece.kind then
    (if first && starts_with nat_eq (drop piece.start text) (codes ";") then 1
    else if spaced && starts_with nat_eq (drop piece.start text) (codes "//") then 2
    else 0)
    else 0

-- the offset of the line end after an offset, or the length of the text
abbrev pub stop_of : List ℕ → ℕ → ℕ
stop_of text at = line_stop text (min at (length text))

-- `#`, the bytes between two offsets, and a line feed
abbrev pub line : List ℕ → ℕ → ℕ → List ℕ
line text start stop = 35 ∷ slice_range text start stop ++ 10 ∷ []

-- a comment and a line feed
abbrev pub comment : List ℕ → Piece → List ℕ
comment text piece =
    if is_comment piece.kind then slice_range text piece.start piece.end ++ 10 ∷ [] else []

abbrev pub any_comment : List ℕ → Piece → ℕ → List ℕ
any_comment text piece width =
    if nat_lt 0 width
    then line text (min (piece.start + width) 18446744073709551615) (stop_of text piece.start)
    else comment text piece

abbrev pub after : List ℕ → Place → Piece → ℕ → Place
after text place piece width = record {
  past = if nat_lt 0 width then stop_of text piece.start else place.past;
  is_first = is_line_end piece.kind || (is_blank piece.kind && place.is_first);
  is_spaced = is_line_end piece.kind || is_blank piece.kind;
}

-- what the next piece adds to the comments, and where the piece after it is; pieces in a comment of another language
-- are skipped
abbrev pub width_of : List ℕ → Place → Piece → ℕ
width_of text place piece = marker text piece place.is_first place.is_spaced

abbrev pub added : List ℕ → Place → Piece → List ℕ
added text place piece =
    if nat_lt piece.start place.past then [] else any_comment text piece (width_of text place piece)

abbrev pub next : List ℕ → Place → Piece → Place
next text place piece =
    if nat_lt piece.start place.past then place else after text place piece (width_of text place piece)

-- the comments from a place on
unfoldable pub comments_from : List ℕ → Place → List Piece → List ℕ
comments_from text place [] = []
comments_from text place (piece ∷ pieces) =
    added text place piece ++ comments_from text (next text place piece) pieces

-- The comments among the pieces of a text, a line each. A comment of another language has `#` in place of its marker.
abbrev pub comments : List ℕ → List Piece → List ℕ
comments text pieces = comments_from text (record { past = 0; is_first = true; is_spaced = true }) pieces
