-- The characters and line ends of a text, and the folded text, in which CRLF is one line feed. From the end of a text
-- on, `slice_index` is 0. So an offset with another byte, such as a line feed, is inside the text, and needs no bound.
use Rattle.std.specs.Prelude.{◌≡◌, ℕ, ◌+◌, ◌⊎◌, Bool, true, false, ◌&&◌, ◌==◌, List, [], ◌∷◌, ◌++◌, if◌then◌else◌, drop}
use Rattle.std.specs.Prelude.{length, slice_index, encode_utf8}
use Rattle.std.specs.Char.{len_utf8}
use Rattle.std.specs.Str.{chars, IsCharBoundary}
use Rattle.toml_span_lex.specs.Bytes.{line_feed, carriage_return, byte_order_mark}

-- ---- at an offset

-- whether there is a CRLF at i: a carriage return, and a line feed directly after it
abbrev pub is_crlf : List ℕ → ℕ → Bool
is_crlf text i = slice_index text i == carriage_return && slice_index text (i + 1) == line_feed

-- The text from i to j is a line end: a line feed, or a carriage return and a line feed (`newline = %x0A / %x0D.0A`).
abbrev pub LineEnd : List ℕ → ℕ → ℕ → Type 0
LineEnd text i j = ((slice_index text i ≡ line_feed) × (j ≡ i + 1)) ⊎ ((is_crlf text i ≡ true) × (j ≡ i + 2))

-- No line end begins at i.
abbrev pub NoLineEnd : List ℕ → ℕ → Type 0
NoLineEnd text i = (slice_index text i == line_feed ≡ false) × (is_crlf text i ≡ false)

-- The character at i is c, and ends at j. CRLF is one line feed.
abbrev pub CharAt : List ℕ → ℕ → ℕ → ℕ → Type 0
CharAt text i c j =
    ((is_crlf text i ≡ true) × (c ≡ line_feed) × (j ≡ i + 2))
    ⊎ ((is_crlf text i ≡ false) × (j ≡ i + len_utf8 c) × (drop i text ≡ encode_utf8 c ++ drop j text))

-- Reading begins at the offset `at`: after the byte order mark, if the text begins with one, otherwise at 0.
abbrev pub FirstPlace : List ℕ → ℕ → Type 0
FirstPlace text at =
    CharAt text 0 byte_order_mark at
    ⊎ ((at ≡ 0) × ((length text ≡ 0) ⊎ ((c : ℕ) × (j : ℕ) × CharAt text 0 c j × (c ≡ byte_order_mark → ⊥))))

-- The offset is not between the two bytes of a CRLF.
abbrev pub KeepsLineEnd : List ℕ → ℕ → Type 0
KeepsLineEnd text i = (k : ℕ) → i ≡ k + 1 → is_crlf text k ≡ false

-- The offset is between two characters of the folded text, or at its start or end.
abbrev pub IsFoldedPlace : List ℕ → ℕ → Type 0
IsFoldedPlace text i = IsCharBoundary text i × KeepsLineEnd text i

-- ---- the folded text

-- These characters of a text, each with its offset, where CRLF becomes one line feed. The first character is at i.
-- `after_return` says whether the character before it is a carriage return.
abbrev pub folded_from : ℕ → Bool → List ℕ → List (ℕ × ℕ)
folded_from i after_return [] = []
folded_from i after_return (c ∷ cs) =
    if after_return && c == line_feed then folded_from (i + 1) false cs
    else (i, (if c == carriage_return && slice_index cs 0 == line_feed then line_feed else c))
    ∷ folded_from (i + len_utf8 c) (c == carriage_return) cs

-- the characters of the folded text from the offset i on
abbrev pub folded : List ℕ → ℕ → List (ℕ × ℕ)
folded text i = folded_from i false (chars (drop i text))
