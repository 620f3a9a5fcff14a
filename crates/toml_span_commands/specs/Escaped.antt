-- Texts of files as they are printed.
use Rattle.std.specs.Prelude.{ℕ, Bool, true, false, ◌==◌, ◌||◌, List, encode_utf8, if◌then◌else◌}
use Rattle.std.specs.List.{flat_map}
use Rattle.std.specs.Str.{chars}
use Rattle.toml_span_report.specs.Visible.{visible_char}

-- a character for a terminal: a tab or a character of a line end as it is, any other with the escapes of `visible`
abbrev pub kept_char : ℕ → List ℕ
kept_char c = if c == 9 || c == 13 || c == 10 then encode_utf8 c else visible_char c

-- a text, with escapes if it is printed on a terminal
unfoldable pub escaped : Bool → List ℕ → List ℕ
escaped false text = text
escaped true text = flat_map kept_char (chars text)
