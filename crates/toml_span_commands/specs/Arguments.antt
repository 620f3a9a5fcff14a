-- What the options without a value mean, of the commands that edit a file.
use Rattle.std.specs.Borrow.{Bor}
use Rattle.std.specs.Prelude.{◌≡◌, ℕ, Bool, true, false, ◌||◌, List, [], ◌∷◌, ◌++◌, codes, MatchBool, if◌then◌else◌}
use Rattle.std.specs.Str.{bytes_eq}
use Rattle.toml_span_files.specs.declared.disk.Options.{Options}
use Rattle.toml_span_commands.specs.Files.{with_write}
use Rattle.toml_span_commands.specs.Words.{is_help}
use Rattle.toml_span_commands.specs.declared.arguments.Arguments.{Arguments}
use Rattle.toml_span_commands.specs.declared.arguments.Show.{Show}
use Rattle.toml_span_commands.specs.declared.arguments.Show.TheVariants.{Diff, No, Text}

-- the arguments with an option other than those that say how files are written, if this word is one
unfoldable pub with_own : Arguments → List ℕ → Arguments × Bool
with_own a word =
    if is_help word then (record a { is_help = true }, true)
    else if bytes_eq word (codes "--string") then (record a { is_string = true }, true)
    else if bytes_eq word (codes "--replace-table") then (record a { replaces_tables = true }, true)
    else if bytes_eq word (codes "--no-config") then (record a { has_no_config = true }, true)
    else if bytes_eq word (codes "--dry-run") then (record a { show = Text }, true)
    else if bytes_eq word (codes "--diff") then (record a { show = Diff }, true)
    else (a, false)

-- the arguments with these options on how files are written, after a word that is one of them or may be another option
abbrev pub or_own : Options → Bool → Arguments → List ℕ → Arguments × Bool
or_own options true a word = (record a { options = options }, true)
or_own options false a word = with_own (record a { options = options }) word

-- the arguments with one more option, and whether this word is one
unfoldable pub with_flag : Arguments → List ℕ → Arguments × Bool
with_flag a word = or_own (with_write a.options word).0 (with_write a.options word).1 a word

-- An option is stored, and any other word is added to those that are not options.
abbrev pub TakesOption : Bor (List ℕ) → Arguments → Arguments → Type 0
TakesOption word old new =
    MatchBool (with_flag old word.now).1 (new ≡ (with_flag old word.now).0)
    (new.words.items ≡ (with_flag old word.now).0.words.items ++ word ∷ [])

-- whether the result of edits is printed: for standard input, and with `--dry-run` or `--diff`
abbrev pub is_shown : List ℕ → Show → Bool
is_shown file No = bytes_eq file (codes "-")
is_shown file Text = true
is_shown file Diff = true
