-- Laws of positions.
use Rattle.std.specs.Prelude.{◌≡◌, ℕ, suc, ◌<◌, ◌^◌, List, encode_utf8, length, nat_lt, slice_index, sum_by}
use Rattle.std.specs.Prelude.{if◌then◌else◌}
use Rattle.std.specs.Str.{IsCharBoundary}
use Rattle.toml_span_editor.specs.declared.positions.Encoding.{Encoding}
use Rattle.toml_span_editor.specs.declared.positions.Encoding.TheVariants.{Utf8, Utf16, Utf32}
use Rattle.toml_span_editor.specs.Positions.{offset_of, position_of, units}

-- The offset `at` is between CR and LF.
abbrev pub IsInsideLineEnd : List ℕ → ℕ → Type 0
IsInsideLineEnd text at = (k : ℕ) × (at ≡ suc k) × (slice_index text k ≡ 13) × (slice_index text at ≡ 10)

-- In a text of less than 512 MiB, converting a character boundary to a position and back returns the same boundary,
-- unless the boundary is between CR and LF.
abbrev pub PositionsReturn : Type 0
PositionsReturn = (encoding : Encoding) (text : List ℕ) (at : ℕ) → length text < 2 ^ 29 → IsCharBoundary text at
    → ¬ (IsInsideLineEnd text at) → offset_of encoding text (position_of encoding text at) ≡ at

-- the number of code units of the character with the code point `c`
abbrev pub code_units : Encoding → ℕ → ℕ
code_units Utf8 c = length (encode_utf8 c)
code_units Utf16 c = if nat_lt c 65536 then 1 else 2
code_units Utf32 c = 1

-- The results of `units` for the bytes of a character add up to the number of the character's code units.
abbrev pub CountsCharacters : Type 0
CountsCharacters = (encoding : Encoding) (c : ℕ) → c < 1114112
    → sum_by (units encoding) (encode_utf8 c) ≡ code_units encoding c
