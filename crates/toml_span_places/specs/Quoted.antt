-- Keys and strings, written as TOML (TOML 1.1, "Keys", "String").
use Rattle.std.specs.Prelude.{ℕ, ◌/◌, ◌%◌, Bool, ◌==◌, ◌||◌, ◌&&◌, not, nat_lt, nat_le, List, ◌++◌, length, codes, encode_utf8}
use Rattle.std.specs.Prelude.{if◌then◌else◌, Option, Some, None}
use Rattle.std.specs.Char.{digit_char}
use Rattle.std.specs.List.{flat_map, list_all, list_any}
use Rattle.std.specs.Str.{chars}
use Rattle.toml_span_lex.specs.Bytes.{backspace, tab, line_feed, form_feed, carriage_return, space}
use Rattle.toml_span_lex.specs.Bytes.{quotation_mark, apostrophe, backslash, is_keylike}

-- ---- between quotation marks

-- the letter of a character's short escape in TOML 1.0, such as `n` for a line feed; None for a tab, which needs no
-- escape, and for a character without a short escape
abbrev pub letter_of : ℕ → Option ℕ
letter_of c =
    if c == quotation_mark || c == backslash then Some c
    else if c == backspace then Some 98
    else if c == line_feed then Some 110
    else if c == form_feed then Some 102
    else if c == carriage_return then Some 114
    else None

-- a control character other than a tab
abbrev pub is_control : ℕ → Bool
is_control c = (nat_lt c space && not (c == tab)) || (nat_le 0x7F c && nat_le c 0x9F)

abbrev pub digit : ℕ → List ℕ
digit n = encode_utf8 (digit_char n)

-- the escape of a control character by its number, such as `\u001f`
abbrev pub number_escape : ℕ → List ℕ
number_escape c = codes "\\u00" ++ (digit (c / 16) ++ digit (c % 16))

abbrev pub letter_escape : ℕ → List ℕ
letter_escape c = encode_utf8 backslash ++ encode_utf8 c

abbrev pub letter_or : Option ℕ → List ℕ → List ℕ
letter_or (Some letter) other = letter_escape letter
letter_or None other = other

abbrev pub basic_char : ℕ → List ℕ
basic_char c = letter_or (letter_of c) (if is_control c then number_escape c else encode_utf8 c)

unfoldable pub basic : List ℕ → List ℕ
basic text = flat_map basic_char (chars text)

-- ---- strings and keys

-- whether the byte is a quotation mark or a backslash, which must be escaped in a basic string
abbrev pub is_escaped : ℕ → Bool
is_escaped c = c == quotation_mark || c == backslash

-- whether the character is not written in a literal string
abbrev pub is_unliteral : ℕ → Bool
is_unliteral c = c == apostrophe || is_control c

-- whether the text can be a literal string, and is shorter as one
abbrev pub is_literal : List ℕ → Bool
is_literal text = list_any is_escaped text && not (list_any is_unliteral (chars text))

abbrev pub quoted : List ℕ → List ℕ
quoted text =
    if is_literal text then codes "'" ++ text ++ codes "'" else codes "\"" ++ basic text ++ codes "\""

abbrev pub is_bare : List ℕ → Bool
is_bare name = not (length name == 0) && list_all is_keylike name

abbrev pub key_text : List ℕ → List ℕ
key_text name = if is_bare name then name else quoted name
