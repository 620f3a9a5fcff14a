-- Kinds of single arguments, and the arguments of a command.
use Rattle.std.specs.Prelude.{ℕ, Bool, ◌==◌, ◌||◌, not, nat_lt, true, false, List, [], ◌∷◌, ◌++◌, codes, fold, length}
use Rattle.std.specs.Prelude.{map, Option, Some, None, option_map, if◌then◌else◌}
use Rattle.std.specs.List.{after_first, before_first, list_any}
use Rattle.std.specs.Str.{bytes_eq}
use Rattle.toml_span_commands.specs.declared.words.Argument.{Argument}
use Rattle.toml_span_commands.specs.declared.words.Argument.TheVariants as arguments
use Rattle.toml_span_commands.specs.declared.words.Given.{Given}

abbrev pub is_help : List ℕ → Bool
is_help word = bytes_eq word (codes "-h") || bytes_eq word (codes "--help")

abbrev pub is_version : List ℕ → Bool
is_version word = bytes_eq word (codes "-V") || bytes_eq word (codes "--version")

abbrev pub begins_with : ℕ → List ℕ → Bool
begins_with byte [] = false
begins_with byte (first ∷ rest) = first == byte

abbrev pub has : ℕ → List ℕ → Bool
has byte word = list_any (λ other. other == byte) word

-- Whether an argument can't be a misspelled command: it begins with a dash, or contains a dot, a slash, or a NUL. A NUL
-- marks an argument that is not valid UTF-8.
abbrev pub is_file : List ℕ → Bool
is_file word = begins_with 45 word || has 46 word || has 47 word || has 0 word

-- ---- the arguments of a command

-- the text of an argument before the first `=`, or all of it
unfoldable pub name_of : List ℕ → List ℕ
name_of word = before_first (λ b. b == 61) word

-- the text of an argument after the first `=`
unfoldable pub value_in : List ℕ → List ℕ
value_in word = after_first (λ b. b == 61) word

unfoldable pub is_among : List ℕ → List (List ℕ) → Bool
is_among name [] = false
is_among name (one ∷ names) = if bytes_eq one name then true else is_among name names

-- an option without a value, an option and its value, or any other argument
pub data ArgumentText : Type 0 where
  Flag : List ℕ → ArgumentText
  Valued : List ℕ → List ℕ → ArgumentText
  Other : List ℕ → ArgumentText

abbrev pub argument_text : Argument → ArgumentText
argument_text (arguments.Flag word) = Flag word.now
argument_text (arguments.Valued name value) = Valued name.now value.now
argument_text (arguments.Other word) = Other word.now

-- the arguments that have been read, an option whose value is the next argument, and whether there was a `--`
abbrev pub State : Type 0
State = List ArgumentText × Option (List ℕ) × Bool

abbrev pub state : Given → State
state given = (map argument_text given.list.items, option_map (λ option. option.now) given.waiting, given.is_over)

-- one more argument, which may be an option; those in `valued` have a value, after `=` or as the next argument
abbrev pub with_option : List (List ℕ) → List ArgumentText → List ℕ → State
with_option valued read word =
    if not (begins_with 45 word) || bytes_eq word (codes "-") then (read ++ Other word ∷ [], None, false)
    else if bytes_eq word (codes "--") then (read, None, true)
    else if not (is_among (name_of word) valued) then (read ++ Flag word ∷ [], None, false)
    else if nat_lt (length (name_of word)) (length word)
    then (read ++ Valued (name_of word) (value_in word) ∷ [], None, false)
    else (read, Some (name_of word), false)

-- one more argument; the value of an option is any text, and no argument after `--` is an option
unfoldable pub with_word : List (List ℕ) → State → List ℕ → State
with_word valued (read, Some option, is_over) word = (read ++ Valued option word ∷ [], None, is_over)
with_word valued (read, None, true) word = (read ++ Other word ∷ [], None, true)
with_word valued (read, None, false) word = with_option valued read word

-- the arguments in these words
abbrev pub arguments_in : List (List ℕ) → List (List ℕ) → State
arguments_in valued words = fold (with_word valued) ([], None, false) words
