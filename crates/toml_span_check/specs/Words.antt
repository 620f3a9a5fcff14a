-- Command-line arguments as texts, even if they are not valid UTF-8.
use Rattle.std.specs.Prelude.{ℕ, ◌/◌, ◌%◌, Bool, ◌==◌, nat_lt, List, [], ◌∷◌, ◌++◌, codes, encode_utf8, if◌then◌else◌}
use Rattle.std.specs.List.{flat_map, list_any}
use Rattle.std.specs.Str.{chars, is_utf8}
use Rattle.toml_span_places.specs.Quoted.{digit}

-- an ASCII byte as it is, any other as NUL, `x` and two hexadecimal digits
abbrev pub word_byte : ℕ → List ℕ
word_byte byte = if nat_lt byte 128 then byte ∷ [] else codes "\0x" ++ digit (byte / 16) ++ digit (byte % 16)

abbrev pub bytes_text : List ℕ → List ℕ
bytes_text word = flat_map word_byte word

-- An argument as a text. Arguments do not contain NUL, so only the text of an argument that is not valid UTF-8 has a
-- NUL.
abbrev pub word_text : List ℕ → List ℕ
word_text word = if is_utf8 word then word else bytes_text word

abbrev pub is_bytes : List ℕ → Bool
is_bytes text = list_any (λ byte. byte == 0) text

-- a character of an argument's text as it is displayed: NUL as a backslash, as in `\xe9`, and any other as it is
abbrev pub shown_char : ℕ → List ℕ
shown_char c = encode_utf8 (if c == 0 then 92 else c)

unfoldable pub shown_word : List ℕ → List ℕ
shown_word text = flat_map shown_char (chars text)
