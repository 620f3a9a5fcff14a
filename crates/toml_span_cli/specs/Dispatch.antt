-- The request that the first argument makes, and how it is carried out.
use Rattle.std.specs.Prelude.{◌≤◌, ℕ, Bool, true, false, ◌||◌, List, drop, Option, Some, None, slice_get}
use Rattle.std.specs.Prelude.{if◌then◌else◌}
use Rattle.std.specs.Io.KnownBytes.{Keeps}
use Rattle.toml_span_check.specs.Schemas.{no_schema}
use Rattle.toml_span_commands.specs.Check.{PerformsCheck}
use Rattle.toml_span_commands.specs.Commands.{command_named}
use Rattle.toml_span_commands.specs.Say.{Prints, Warns}
use Rattle.toml_span_commands.specs.Show.{PerformsShow}
use Rattle.toml_span_commands.specs.Start.{Starts}
use Rattle.toml_span_commands.specs.Words.{is_file, is_help, is_version}
use Rattle.toml_span_commands.specs.declared.colours.Screen.{Screen}
use Rattle.toml_span_commands.specs.declared.commands.Command.{Command}
use Rattle.toml_span_commands.specs.declared.commands.Command.TheVariants as commands
use Rattle.toml_span_cli.specs.declared.dispatch.Request.{Request}
use Rattle.toml_span_cli.specs.declared.dispatch.Request.TheVariants as requests
use Rattle.toml_span_commands.specs.declared.help.TheConstants.{HELP, VERSION}
use Rattle.toml_span_commands.specs.declared.options.Query.TheVariants as queries

-- the request for this command; without a command, a check of files if `is_file`, otherwise an unknown request
abbrev pub named : Option Command → Bool → Request
named (Some command) is_file = requests.Command command
named None true = requests.Files
named None false = requests.Unknown

-- The request that the first argument makes. `exists` says whether there is a file or directory with this name.
unfoldable pub request_of : List ℕ → Bool → Request
request_of word exists =
    if is_help word then requests.Help
    else if is_version word then requests.Version
    else named (command_named word) (is_file word || exists)

-- What a command does. `words` are the name of the command, or of the program, and the arguments. `stdout` and
-- `stdout'` are the texts on standard output before and after, and `out_failed` says whether a write to it failed.
-- `stderr`, `stderr'` and `err_failed` are the same for standard error. `status` is the exit status. For commands other
-- than `check`, `get` and `show`, only its range is stated.
abbrev pub Performs : Command → List (List ℕ) → Screen → Option (List ℕ) → Option (List ℕ) → Bool → Option (List ℕ)
    → Option (List ℕ) → Bool → ℕ → Type 0
Performs commands.Check words screen stdout stdout' out_failed stderr stderr' err_failed status =
    PerformsCheck words screen stdout stdout' out_failed stderr stderr' err_failed status
Performs commands.Get words screen stdout stdout' out_failed stderr stderr' err_failed status =
    Starts no_schema queries.Get words screen None None stdout stdout' out_failed stderr stderr' err_failed status
Performs commands.Show words screen stdout stdout' out_failed stderr stderr' err_failed status =
    PerformsShow words stdout stdout' out_failed stderr stderr' err_failed status
Performs command words screen stdout stdout' out_failed stderr stderr' err_failed status = status ≤ 4

-- How a request is carried out. A command gets `words` without the program's name, a check of files gets all of
-- `words`.
abbrev pub Answers : Request → List (List ℕ) → Screen → Option (List ℕ) → Option (List ℕ) → Bool → Option (List ℕ)
    → Option (List ℕ) → Bool → ℕ → Type 0
Answers (requests.Command c) words screen stdout stdout' out_failed stderr stderr' err_failed status =
    Performs c (drop 1 words) screen stdout stdout' out_failed stderr stderr' err_failed status
Answers requests.Files words screen stdout stdout' out_failed stderr stderr' err_failed status =
    Performs commands.Check words screen stdout stdout' out_failed stderr stderr' err_failed status
Answers requests.Help words screen stdout stdout' out_failed stderr stderr' err_failed status =
    Prints stdout stdout' out_failed HELP.now 0 status × Keeps stderr stderr'
Answers requests.Version words screen stdout stdout' out_failed stderr stderr' err_failed status =
    Prints stdout stdout' out_failed VERSION.now 0 status × Keeps stderr stderr'
Answers requests.Unknown words screen stdout stdout' out_failed stderr stderr' err_failed status =
    Keeps stdout stdout' × Warns stderr stderr' err_failed 2 status

-- How the request of the first argument is carried out. Without an argument, the help is printed to standard error,
-- with status 2.
abbrev pub AnswersFirst : Option (List ℕ) → List (List ℕ) → Screen → Option (List ℕ) → Option (List ℕ) → Bool
    → Option (List ℕ) → Option (List ℕ) → Bool → ℕ → Type 0
AnswersFirst None words screen stdout stdout' out_failed stderr stderr' err_failed status =
    Keeps stdout stdout' × Prints stderr stderr' err_failed HELP.now 2 status
AnswersFirst (Some word) words screen stdout stdout' out_failed stderr stderr' err_failed status =
    (exists : Bool)
    × Answers (request_of word exists) words screen stdout stdout' out_failed stderr stderr' err_failed status

-- How the command line is carried out. The first of `words` is the program's name.
abbrev pub Dispatches : List (List ℕ) → Screen → Option (List ℕ) → Option (List ℕ) → Bool → Option (List ℕ)
    → Option (List ℕ) → Bool → ℕ → Type 0
Dispatches words screen stdout stdout' out_failed stderr stderr' err_failed status =
    AnswersFirst (slice_get words 1) words screen stdout stdout' out_failed stderr stderr' err_failed status
