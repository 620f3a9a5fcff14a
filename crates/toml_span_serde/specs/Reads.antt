-- Which pieces each step of a reader reads.
use Rattle.std.specs.Prelude.{◌≡◌, ℕ, ℤ, pos, List, ◌∷◌, ◌⊎◌, Bool, true, false, encode_utf8, Some}
use Rattle.std.specs.Float.{Float, Format, binary32, binary64}
use lib.Ieee as Ieee
use Rattle.fast_float.specs.Parse.{parse_float}
use Rattle.serde.specs.Event as event
use Rattle.serde.specs.Names.{Finds}
use Rattle.serde.specs.declared.name.Name.{Name}
use Rattle.toml_span_serde.specs.Asks.{AsksStart, AsksEnd}
use Rattle.toml_span_lex.specs.declared.span.Span.{Span}
use Rattle.toml_span_tree.specs.Node as tree
use Rattle.toml_span_tree.specs.Float.{float_text}
use Rattle.toml_span_serde.specs.Pieces.{Content, Piece, value, array_begins, array_ends, table_begins, table_ends, key}

-- One piece is read, and P holds for its content.
abbrev pub TakesPiece : (Content → Type 0) → List Piece → List Piece → Type 0
TakesPiece P old new = (p : Piece) × (old ≡ p ∷ new) × P p.content

-- a string or a key with these bytes
abbrev pub IsText : List ℕ → Content → Type 0
IsText s c = (c ≡ value (tree.text s)) ⊎ (c ≡ key s)

-- a string, a key or a datetime with these bytes
abbrev pub IsWritten : List ℕ → Content → Type 0
IsWritten s c = IsText s c ⊎ (c ≡ value (tree.datetime s))

-- a float whose text is read as this number, or an integer to which this number is nearest
abbrev pub HoldsNumber : Format → Float → Content → Type 0
HoldsNumber format x c =
    ((d : tree.FloatValue) × (c ≡ value (tree.float d)) × (parse_float format (float_text d) ≡ Some x))
    ⊎ ((z : ℤ) × (c ≡ value (tree.integer z)) × (x ≡ Ieee.of_int format z))

abbrev pub Reads : List Piece → event.Event → List Piece → Type 0
Reads old (event.boolean b) new = TakesPiece (λ c. c ≡ value (tree.boolean b)) old new
Reads old (event.signed z) new = TakesPiece (λ c. c ≡ value (tree.integer z)) old new
Reads old (event.unsigned n) new = TakesPiece (λ c. c ≡ value (tree.integer (pos n))) old new
Reads old (event.single x) new = TakesPiece (HoldsNumber binary32 x) old new
Reads old (event.double x) new = TakesPiece (HoldsNumber binary64 x) old new
Reads old (event.character c) new = TakesPiece (IsText (encode_utf8 c)) old new
Reads old (event.text s) new = TakesPiece (IsWritten s) old new
Reads old (event.octets s) new = TakesPiece (IsWritten s) old new
Reads old event.nothing new = ⊥
Reads old (event.unit_variant name case) new = ⊥
Reads old (event.seq_begins n) new = TakesPiece (λ c. c ≡ array_begins) old new
Reads old event.seq_ends new = TakesPiece (λ c. c ≡ array_ends) old new
Reads old (event.map_begins n) new = TakesPiece (λ c. c ≡ table_begins) old new
Reads old event.map_ends new = TakesPiece (λ c. c ≡ table_ends) old new
Reads old (event.field_key name case) new = ⊥
Reads old (event.variant_key name case) new = ⊥
Reads old event.key_begins new =
    (new ≡ old) × ((s : List ℕ) × (rest : List Piece) × TakesPiece (λ c. c ≡ key s) old rest)
Reads old event.key_ends new = ⊥
Reads old event.flattens new = ⊥

-- P holds for the next piece, which is not read.
abbrev pub Sees : (Piece → Type 0) → List Piece → List Piece → Type 0
Sees P old new = (new ≡ old) × ((p : Piece) × (rest : List Piece) × (old ≡ p ∷ rest) × P p)

-- For `true`, a key is read, and `at` is the index in `names` that is found for it. For `false`, a string or key is
-- read in the same way. But if `names` asks for the start or the end of a span, `at` is that of the next piece, and
-- nothing is read.
abbrev pub Picks : List Piece → Bool → List Name → ℕ → List Piece → Type 0
Picks old true names at new = (s : List ℕ) × TakesPiece (λ c. c ≡ key s) old new × Finds names s at
Picks old false names at new =
    (AsksStart names → Sees (λ p. at ≡ p.span.start) old new)
    × (AsksEnd names → Sees (λ p. at ≡ p.span.end) old new)
    × (¬ AsksStart names → ¬ AsksEnd names → (s : List ℕ) × TakesPiece (IsText s) old new × Finds names s at)

-- The next piece has this span.
abbrev pub BeginsAt : Span → List Piece → Type 0
BeginsAt span ps = (p : Piece) × (rest : List Piece) × (ps ≡ p ∷ rest) × (p.span ≡ span)
