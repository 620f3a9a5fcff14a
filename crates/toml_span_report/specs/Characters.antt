-- How characters are printed, and how many columns they take.
use Rattle.std.specs.Prelude.{ℕ, ◌+◌, Bool, false, ◌==◌, ◌||◌, ◌&&◌, nat_lt, nat_le, List, codes, encode_utf8}
use Rattle.std.specs.Prelude.{if◌then◌else◌}
use Rattle.std.specs.List.{flat_map}
use Rattle.std.specs.Str.{chars}
use Rattle.unicode_width.specs.Width.{str_width}

-- whether a character is printed as U+FFFD: a control character from U+0080 on, U+2028 or U+2029, a character that
-- changes the direction of the text, or U+200B, U+200D or U+FEFF, which have no width
abbrev pub is_hidden : ℕ → Bool
is_hidden c = (nat_le 0x80 c && nat_lt c 0xA0) || c == 0x061C || c == 0x200B || (nat_le 0x200D c && nat_le c 0x200F)
    || (nat_le 0x2028 c && nat_le c 0x202E) || (nat_le 0x2066 c && nat_le c 0x2069) || c == 0xFEFF

-- A tab is printed as four spaces, any other control character of ASCII as its picture (U+2400 for the byte 0), and a
-- hidden character as U+FFFD. Any other character is printed as it is.
abbrev pub shown_char : ℕ → List ℕ
shown_char c =
    if c == 9 then codes "    "
    else if nat_lt c 32 then encode_utf8 (c + 0x2400)
    else if c == 127 then encode_utf8 0x2421
    else if is_hidden c then encode_utf8 0xFFFD
    else encode_utf8 c

-- a text in its printed form
unfoldable pub shown : List ℕ → List ℕ
shown text = flat_map shown_char (chars text)

-- the number of columns of a text that is in its printed form
unfoldable pub columns : List ℕ → ℕ
columns text = str_width false (chars text)
