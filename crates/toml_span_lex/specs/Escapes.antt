-- Escapes in basic strings.
use Rattle.std.specs.Prelude.{◌≡◌, ℕ, ◌+◌, ◌<◌, ◌≤◌, ◌⊎◌, Bool, true, false, ◌||◌, ◌==◌, nat_lt, if◌then◌else◌, is_some}
use Rattle.std.specs.Prelude.{List, take, drop, length, slice_index, Option, Some, None}
use Rattle.std.specs.Char.{is_digit, IsScalar}
use Rattle.std.specs.Str.Parse.{digits_value}
use Rattle.toml_span_lex.specs.Text.{CharAt}
use Rattle.toml_span_lex.specs.declared.tokens.Error.{Error}
use Rattle.toml_span_lex.specs.declared.tokens.Error.TheVariants as errors

-- the character that a backslash and this letter represent, or None if the letter needs digits or may not follow a
-- backslash: `escape-seq-char = %x22 / %x5C / %x62 / %x65 / %x66 / %x6E / %x72 / %x74`, which is `"`, `\`, b
-- (backspace), e (escape), f (form feed), n (line feed), r (carriage return) and t (tab)
abbrev pub simple_escape : ℕ → Option ℕ
simple_escape c =
    if c == 0x22 then Some 0x22
    else if c == 0x5C then Some 0x5C
    else if c == 0x62 then Some 0x08
    else if c == 0x66 then Some 0x0C
    else if c == 0x6E then Some 0x0A
    else if c == 0x72 then Some 0x0D
    else if c == 0x74 then Some 0x09
    else if c == 0x65 then Some 0x1B
    else None

-- `escape-seq-char =/ %x78 2HEXDIG / %x75 4HEXDIG / %x55 8HEXDIG`: how many hexadecimal digits must follow this letter
-- after a backslash: none except after x, u and U
abbrev pub hex_len : ℕ → ℕ
hex_len c = if c == 0x78 then 2 else if c == 0x75 then 4 else if c == 0x55 then 8 else 0

-- `HEXDIG`: a hexadecimal digit, of either case
abbrev pub is_hex : ℕ → Bool
is_hex c = is_digit c 16

-- The bytes from a to b (exclusive) are hexadecimal digits.
pub record HexRun (text : List ℕ) (a b : ℕ) : Type 0 where
  pub within : b ≤ length text
  pub digits : (k : ℕ) → a ≤ k → k < b → is_hex (slice_index text k) ≡ true

-- the value of the n hexadecimal digits from a on
abbrev pub hex_value : List ℕ → ℕ → ℕ → ℕ
hex_value text a n = digits_value 16 (take n (drop a text))

-- The n digits after the letter at i spell the code point of the character c, and end at j.
abbrev pub IsHexEscape : List ℕ → ℕ → ℕ → ℕ → ℕ → Type 0
IsHexEscape text i n c j = HexRun text (i + 1) j × (j ≡ (i + 1) + n) × (c ≡ hex_value text (i + 1) n) × IsScalar c

-- n digits must follow the letter at i, but the text ends too early, there is another character, or the digits do not
-- spell the code point of a character. The error reports which of these it is, and j is the offset up to which the text
-- was read.
abbrev pub IsHexFault : ℕ → List ℕ → ℕ → ℕ → ℕ → Error → Type 0
IsHexFault start text i n j (errors.UnterminatedString s) =
    (s ≡ start) × (j ≡ length text) × HexRun text (i + 1) (length text) × (length text < (i + 1) + n)
IsHexFault start text i n j (errors.InvalidHexEscape at c) =
    (i < at) × (at < (i + 1) + n) × HexRun text (i + 1) at × CharAt text at c j × (is_hex c ≡ false)
IsHexFault start text i n j (errors.InvalidEscapeValue at m v) =
    (at ≡ i) × (m ≡ n) × (v ≡ hex_value text (i + 1) n) × HexRun text (i + 1) j × (j ≡ (i + 1) + n) × (IsScalar v → ⊥)
IsHexFault start text i n j _ = ⊥

-- whether this letter may follow a backslash
abbrev pub opens_escape : ℕ → Bool
opens_escape c = is_some (simple_escape c) || nat_lt 0 (hex_len c)

-- `escaped = escape escape-seq-char`: the escape whose letter is at i represents c, and ends at j
abbrev pub IsEscape : List ℕ → ℕ → ℕ → ℕ → Type 0
IsEscape text i c j =
    ((simple_escape (slice_index text i) ≡ Some c) × (i < length text) × (j ≡ i + 1))
    ⊎ ((0 < hex_len (slice_index text i)) × (i < length text) × IsHexEscape text i (hex_len (slice_index text i)) c j)

-- After a backslash, the text ends at i, the character at i is not the letter of an escape, or the digits after the
-- letter are not valid. The fault is e, and j is the offset up to which the escape was read.
abbrev pub IsEscapeFault : ℕ → List ℕ → ℕ → ℕ → Error → Type 0
IsEscapeFault start text i j e =
    ((e ≡ errors.UnterminatedString start) × (i ≡ length text) × (j ≡ i))
    ⊎ ((c : ℕ) × (e ≡ errors.InvalidEscape i c) × (opens_escape c ≡ false) × CharAt text i c j)
    ⊎ ((0 < hex_len (slice_index text i)) × (i < length text)
    × IsHexFault start text i (hex_len (slice_index text i)) j e)
