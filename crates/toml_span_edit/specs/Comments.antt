-- The comments of a text that an edit changes.
use Rattle.std.specs.Prelude.{◌≡◌, ℕ, List, [], ◌∷◌, ◌++◌, Bool, true, false, length, slice_range, if◌then◌else◌}
use Rattle.std.specs.List.Sorted.{IsPermutation}
use Rattle.std.specs.Str.{bytes_eq}
use Rattle.toml_span_syntax.specs.Pieces.{Covers}
use Rattle.toml_span_syntax.specs.declared.pieces.Kind.{Kind}
use Rattle.toml_span_syntax.specs.declared.pieces.Kind.TheVariants as kinds
use Rattle.toml_span_syntax.specs.declared.pieces.Piece.{Piece}

abbrev pub is_comment : Kind → Bool
is_comment kinds.Comment = true
is_comment _ = false

abbrev pub comment : List ℕ → Piece → List (List ℕ)
comment text piece = if is_comment piece.kind then slice_range text piece.start piece.end ∷ [] else []

-- the comments among these pieces of a text, in order
abbrev pub comments : List ℕ → List Piece → List (List ℕ)
comments text [] = []
comments text (piece ∷ pieces) = comment text piece ++ comments text pieces

-- The comments of a text are appended to a list.
abbrev pub AppendsComments : List ℕ → List (List ℕ) → List (List ℕ) → Type 0
AppendsComments text old new = (ps : List Piece) × Covers text 0 ps (length text) × (new ≡ old ++ comments text ps)

-- These are the comments of a text and of a value, in some order.
abbrev pub AreComments : List ℕ → List ℕ → List (List ℕ) → Type 0
AreComments text value cs =
    (ps qs : List Piece) × Covers text 0 ps (length text) × Covers value 0 qs (length value)
    × IsPermutation (comments text ps ++ comments value qs) cs

-- whether the first list has some of the second's elements, in the same order
abbrev pub are_among : List (List ℕ) → List (List ℕ) → Bool
are_among [] ys = true
are_among (x ∷ xs) [] = false
are_among (x ∷ xs) (y ∷ ys) = if bytes_eq x y then are_among xs ys else are_among (x ∷ xs) ys

-- Each comment of `new` is a comment of `text` or of `value`, and occurs no more often than in them.
abbrev pub AddsNoComment : List ℕ → List ℕ → List ℕ → Type 0
AddsNoComment value text new =
    (cs ds : List (List ℕ)) × AreComments new [] cs × AreComments text value ds × (are_among cs ds ≡ true)
