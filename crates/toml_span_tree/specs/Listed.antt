-- How names and keys are printed in lists.
use Rattle.std.specs.Prelude.{ℕ, List, ◌++◌, ◌==◌, ◌||◌, if◌then◌else◌, codes, encode_utf8, false}
use Rattle.std.specs.Char.{is_control, is_whitespace}
use Rattle.std.specs.Fmt.{decimal, digits}
use Rattle.std.specs.List.{flat_map, join_by}
use Rattle.std.specs.Str.{chars}
use Rattle.toml_span_lex.specs.declared.span.Span.{Span}
use Rattle.toml_span_lex.specs.Bytes.{tab, line_feed, carriage_return, space, quotation_mark, backslash}

-- White space or a control character as an escape: `\t`, `\n`, `\r`, a space as itself, and any other as `\u{..}` with
-- its code point in hexadecimal.
abbrev pub escaped_char : ℕ → List ℕ
escaped_char c =
    if c == tab then codes "\\t"
    else if c == line_feed then codes "\\n"
    else if c == carriage_return then codes "\\r"
    else if c == space then codes " "
    else codes "\\u{" ++ digits 16 false c ++ codes "}"

-- a character of a quoted name
abbrev pub quoted_char : ℕ → List ℕ
quoted_char c =
    if c == quotation_mark then codes "\\\""
    else if c == backslash then codes "\\\\"
    else if is_whitespace c || is_control c then escaped_char c
    else encode_utf8 c

-- a name in quotes, with escapes
abbrev pub quoted : List ℕ → List ℕ
quoted name = codes "\"" ++ flat_map quoted_char (chars name) ++ codes "\""

-- a span as `Span { start: 16, end: 17 }`
abbrev pub span_text : Span → List ℕ
span_text span =
    codes "Span { start: " ++ decimal span.start ++ codes ", end: " ++ decimal span.end ++ codes " }"

-- the name of a key in quotes, and its span, in parentheses: `("a", Span { start: 16, end: 17 })`
abbrev pub quoted_key : List ℕ × Span → List ℕ
quoted_key key = codes "(" ++ quoted key.0 ++ codes ", " ++ span_text key.1 ++ codes ")"

-- items in brackets, separated by commas and spaces
abbrev pub listed : {A : Type 0} → (A → List ℕ) → List A → List ℕ
listed text items = codes "[" ++ join_by text (codes ", ") items ++ codes "]"
