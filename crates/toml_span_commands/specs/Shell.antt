-- Words of shell commands.
use Rattle.std.specs.Prelude.{ℕ, List, ◌++◌, ◌==◌, codes, encode_utf8, if◌then◌else◌}
use Rattle.std.specs.List.{flat_map}
use Rattle.std.specs.Str.{chars}

-- a character in single quotes; a quote ends the quotes, is escaped, and begins them again: `'\''`
abbrev pub shell_char : ℕ → List ℕ
shell_char c = if c == 39 then codes "'\\''" else encode_utf8 c

unfoldable pub shell_chars : List ℕ → List ℕ
shell_chars word = flat_map shell_char (chars word)

-- a text as one word of a shell command, in single quotes
abbrev pub shell_word : List ℕ → List ℕ
shell_word word = codes "'" ++ shell_chars word ++ codes "'"
