-- Texts in which the characters that terminals act on are escaped.
use Rattle.std.specs.Prelude.{ℕ, ◌/◌, ◌%◌, Bool, ◌==◌, ◌||◌, ◌&&◌, nat_lt, nat_le, List, ◌++◌, codes, encode_utf8}
use Rattle.std.specs.Prelude.{if◌then◌else◌}
use Rattle.std.specs.Char.{digit_char}
use Rattle.std.specs.List.{flat_map}
use Rattle.std.specs.Str.{chars}
use Rattle.json.specs.Print as print

-- whether a character is a control character, ends a line, or changes the direction of the text
abbrev pub is_escaped : ℕ → Bool
is_escaped c = nat_lt c 0x20 || (nat_le 0x7F c && nat_lt c 0xA0) || c == 0x61C || (nat_le 0x200E c && nat_le c 0x200F)
    || (nat_le 0x2028 c && nat_le c 0x202E) || (nat_le 0x2066 c && nat_le c 0x2069)

abbrev pub digit : ℕ → List ℕ
digit n = encode_utf8 (digit_char n)

-- the escape of a character by its number, as in JSON: `\u202e`
unfoldable pub unicode_escape : ℕ → List ℕ
unicode_escape c = codes "\\u" ++ digit (c / 4096) ++ digit (c / 256 % 16) ++ digit (c / 16 % 16) ++ digit (c % 16)

abbrev pub visible_char : ℕ → List ℕ
visible_char c = if is_escaped c then unicode_escape c else encode_utf8 c

-- a text with escapes for the characters of `is_escaped`
unfoldable pub visible : List ℕ → List ℕ
visible text = flat_map visible_char (chars text)

abbrev pub line_char : ℕ → List ℕ
line_char c = if c == 10 then encode_utf8 c else visible_char c

-- a text with escapes for the characters of `is_escaped`, except for line feeds
unfoldable pub visible_lines : List ℕ → List ℕ
visible_lines text = flat_map line_char (chars text)

-- a text as a JSON string, in which the characters of `is_escaped` are escaped too
abbrev pub quoted : List ℕ → List ℕ
quoted text = visible (print.quoted text)
