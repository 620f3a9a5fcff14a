-- The options of the command `fmt` without a value, and what the command makes of a text.
use Rattle.std.specs.Borrow.{Bor}
use Rattle.std.specs.Prelude.{◌≡◌, ℕ, Bool, true, false, List, [], ◌∷◌, ◌++◌, Result, String, codes, map, max}
use Rattle.std.specs.Prelude.{MatchBool, if◌then◌else◌, string_bytes}
use Rattle.std.specs.Global.{Global}
use Rattle.std.specs.Str.{bytes_eq}
use Rattle.toml_span_config.specs.Layers.{given}
use Rattle.toml_span_files.specs.declared.disk.Options.{Options}
use Rattle.toml_span_commands.specs.Files.{with_write}
use Rattle.toml_span_commands.specs.declared.answers.Answer.{Answer}
use Rattle.toml_span_commands.specs.declared.fmt.Asked.{Asked}
use Rattle.toml_span_lex.specs.declared.stop.Stop.{Stop}
use Rattle.toml_span_format.specs.Document.{Formats, FormatsSorted}
use Rattle.toml_span_format.specs.declared.errors.FormatError.{FormatError}

-- the arguments with an option other than those that say how files are written, if this word is one
unfoldable pub with_own : Asked → List ℕ → Asked × Bool
with_own a word =
    if bytes_eq word (codes "--check") then (record a { is_check = true }, true)
    else if bytes_eq word (codes "--diff") then (record a { is_diff = true }, true)
    else if bytes_eq word (codes "--sort-keys")
    then (record a { layer = record a.layer { sort_keys = given true } }, true)
    else if bytes_eq word (codes "--no-trailing-comma")
    then (record a { layer = record a.layer { trailing_comma = given false } }, true)
    else if bytes_eq word (codes "--align-comments")
    then (record a { layer = record a.layer { align_comments = given true } }, true)
    else if bytes_eq word (codes "--force-exclude") then (record a { forces_exclude = true }, true)
    else if bytes_eq word (codes "--no-config") then (record a { has_no_config = true }, true)
    else if bytes_eq word (codes "--quiet") then (record a { is_quiet = true }, true)
    else (a, false)

-- the arguments with these options on how files are written, after a word that is one of them or may be another option
abbrev pub or_own : Options → Bool → Asked → List ℕ → Asked × Bool
or_own writing true a word = (record a { writing = writing }, true)
or_own writing false a word = with_own (record a { writing = writing }) word

-- the arguments with one more option, and whether this word is one
unfoldable pub with_flag : Asked → List ℕ → Asked × Bool
with_flag a word = or_own (with_write a.writing word).0 (with_write a.writing word).1 a word

-- An option is stored, where `--stdin` is the file `-`.
abbrev pub TakesOption : List ℕ → Asked → Asked → Type 0
TakesOption word old new =
    MatchBool (with_flag old word).1 (new ≡ (with_flag old word).0)
    ((bytes_eq word (codes "--stdin") ≡ true) × (map (λ name. name.now) new.names.items
    ≡ map (λ name. name.now) (with_flag old word).0.names.items ++ codes "-" ∷ []))

-- The answer for one more file is added to that for all before. The higher status counts.
abbrev pub Adds : Answer → Answer → Answer → Type 0
Adds old one new =
    (string_bytes new.out ≡ string_bytes old.out ++ string_bytes one.out)
    × (string_bytes new.errors ≡ string_bytes old.errors ++ string_bytes one.errors)
    × (new.status ≡ max old.status one.status)

-- The text is formatted, with sorted keys or not.
abbrev pub FormatsAs : Bool → List ℕ → Result (String Global) (Stop FormatError) → Type 0
FormatsAs true text result = FormatsSorted text result
FormatsAs false text result = Formats text result
