-- The translation of regular expressions of ECMA-262 to the syntax of the crate `regex`.
use Rattle.std.specs.Prelude.{ℕ, ◌==◌, ◌%◌, List, [], ◌∷◌, ◌++◌, Bool, true, false, ◌&&◌, ◌||◌, not, if◌then◌else◌, codes, chars}
use Rattle.std.specs.Char.{encode_utf8, is_ascii_alphabetic}
use Rattle.std.specs.Option.{is_some}
use Rattle.regex.specs.Patterns.{default_config}
use Rattle.regex_syntax.specs.Grammar.{read}

-- The translation of a backslash and a character: `\d` and `\w` match only ASCII. What only the crate `regex` reads is
-- refused. `\c` is the beginning of a control character.
abbrev pub escape : ℕ → List ℕ
escape c =
    if c == 100 then codes "[0-9]"
    else (if c == 68 then codes "[^0-9]"
    else (if c == 119 then codes "[0-9A-Za-z_]"
    else (if c == 87 then codes "[^0-9A-Za-z_]"
    else (if c == 115 then codes "[\\s\\x{FEFF}]"
    else (if c == 83 then codes "[^\\s\\x{FEFF}]"
    else (if c == 65 || c == 122 || c == 90 || c == 97 || c == 60 || c == 62 then codes "(?!)"
    else (if c == 99 then []
    else 92 ∷ [] ++ encode_utf8 c)))))))

-- the translation of the character after `\c`: the control character of a letter
abbrev pub control : ℕ → List ℕ
control c = if is_ascii_alphabetic c then encode_utf8 (c % 32) else codes "(?!)"

-- The translation of a character without a backslash before it: `.` matches no end of a line. In brackets, `[`, `&` and
-- `~` mean themselves.
abbrev pub plain_character : Bool → ℕ → List ℕ
plain_character in_class c =
    if c == 92 then []
    else (if in_class && (c == 91 || c == 38 || c == 126) then 92 ∷ [] ++ encode_utf8 c
    else (if not in_class && c == 46 then codes "[^\\n\\r\\x{2028}\\x{2029}]" else encode_utf8 c))

-- The state is 0, 1 after a backslash, and 2 after `\c`.
abbrev pub character : ℕ → Bool → ℕ → List ℕ
character state in_class c =
    if state == 0 then plain_character in_class c else (if state == 1 then escape c else control c)

abbrev pub in_class_after : ℕ → Bool → ℕ → Bool
in_class_after state in_class c =
    if state == 0 then (if c == 91 then true else (if c == 93 then false else in_class)) else in_class

abbrev pub next_state : ℕ → ℕ → ℕ
next_state state c = if state == 0 then (if c == 92 then 1 else 0) else (if state == 1 && c == 99 then 2 else 0)

abbrev pub translated_from : ℕ → Bool → List ℕ → List ℕ
translated_from state in_class [] = if state == 0 then [] else 92 ∷ []
translated_from state in_class (c ∷ cs) =
    character state in_class c ++ translated_from (next_state state c) (in_class_after state in_class c) cs

abbrev pub translated : List ℕ → List ℕ
translated text = translated_from 0 false (chars text)

-- whether a text is a regular expression, that is, whether its translation can be read
abbrev pub is_pattern : List ℕ → Bool
is_pattern text = is_some (read default_config (chars (translated text)))
