-- The arguments of `check` and `get`. The crate `clap` parses them, as its definitions `matches_of` and `fault_of`
-- state.
use Rattle.std.specs.Prelude.{map, ◌≡◌, ◌==◌, ◌&&◌, ◌||◌, not, ℕ, Bool, true, false, List, [], ◌∷◌, length, Option, Some, None, codes}
use Rattle.std.specs.Prelude.{◌++◌, ◌-◌, slice_get, take, unwrap_or, if◌then◌else◌, Result, Ok, Err}
use Rattle.std.specs.Borrow.{Bor}
use Rattle.std.specs.Str.{bytes_eq}
use Rattle.clap.specs.Lexer.{usize_max}
use Rattle.clap.specs.Kinds.{Kinds, or_else}
use Rattle.clap.specs.Faults.{fault_of}
use Rattle.clap.specs.Words.{App, Row, Rule, all_of, first_of, matches_of, new_app, new_rule, with_rule}
use Rattle.clap.specs.declared.builder.action.ArgAction.TheVariants.{Append, SetTrue}
use Rattle.clap.specs.declared.error.kind.ErrorKind.{ErrorKind}
use Rattle.clap.specs.declared.error.kind.ErrorKind.TheVariants.{ArgumentConflict, InvalidValue, MissingRequiredArgument}
use Rattle.toml_span_check.specs.declared.answer.Task.{Task}
use Rattle.toml_span_check.specs.declared.answer.Task.TheVariants.{Check, Show}
use Rattle.toml_span_check.specs.declared.answer.Form.{Form}
use Rattle.toml_span_check.specs.declared.answer.Form.TheVariants as form
use Rattle.toml_span_check.specs.declared.fixing.FixLevel.{FixLevel}
use Rattle.toml_span_check.specs.declared.fixing.FixLevel.TheVariants.{Safe, Unsafe}
use Rattle.toml_span_check.specs.declared.formats.Format.{Format}
use Rattle.toml_span_check.specs.declared.formats.Format.TheVariants.{Text, Short, Json, Github, Sarif}
use Rattle.toml_span_check.specs.declared.newer.Version.{Version}
use Rattle.toml_span_check.specs.declared.newer.Version.TheVariants as version
use Rattle.toml_span_check.specs.declared.schemas.Chooser.{Chooser}
use Rattle.toml_span_check.specs.declared.schemas.Chooser.TheVariants.{Files, Arguments}
use Rattle.toml_span_check.specs.declared.request.Request.{Request}
use Rattle.toml_span_config.specs.declared.sources.Search.{Search}
use Rattle.toml_span_config.specs.declared.sources.Search.TheVariants as search
use Rattle.toml_span_files.specs.declared.disk.Options.{Options as Writing}
use Rattle.toml_span_files.specs.declared.disk.TheConstants.Options.{USUAL}
use Rattle.toml_span_commands.specs.declared.colours.Screen.{Screen}
use Rattle.toml_span_commands.specs.declared.options.Fixing.{Fixing}
use Rattle.toml_span_commands.specs.declared.options.Fixing.TheVariants as fixings
use Rattle.toml_span_commands.specs.declared.options.Kind.{Kind}
use Rattle.toml_span_commands.specs.declared.options.Kind.TheVariants as kinds
use Rattle.toml_span_commands.specs.declared.options.Options.{Options}
use Rattle.toml_span_commands.specs.declared.options.Mistake.{Mistake}
use Rattle.toml_span_commands.specs.declared.options.Mistake.TheVariants as mistake
use Rattle.toml_span_commands.specs.declared.options.Query.{Query}
use Rattle.toml_span_commands.specs.declared.options.Query.TheVariants as queries
use Rattle.toml_span_check.specs.Words.{is_bytes}
use Rattle.toml_span_commands.specs.Words.{has}
use Rattle.toml_span_report.specs.declared.Style.{Style}
use Rattle.toml_span_report.specs.declared.Style.TheVariants.{Plain, Coloured}

-- ---- the options of each command

-- `--NAME`
abbrev pub flag : List ℕ → Rule
flag name = record (new_rule name) { long = Some name; action = Some SetTrue }

-- `--NAME VALUE`, with a default
abbrev pub with_default : List ℕ → List ℕ → Rule
with_default name default = record (new_rule name) { long = Some name; defaults = default ∷ [] }

-- `--NAME VALUE`, any number of times
abbrev pub several : List ℕ → Rule
several name = record (new_rule name) { long = Some name; action = Some Append }

-- `--NAME VALUE`
abbrev pub optional : List ℕ → Rule
optional name = record (new_rule name) { long = Some name }

-- any number of values; without one, `.`
abbrev pub files : List ℕ → Rule
files name = record (new_rule name) {
  range = Some (record { start_inclusive = 0; end_inclusive = usize_max });
  defaults = codes "." ∷ [];
}

-- a required argument
abbrev pub required : List ℕ → Rule
required name = record (new_rule name) { required = true }

-- a required argument, which may follow further ones
abbrev pub after_others : List ℕ → Rule
after_others name = record (required name) {
  range = Some (record { start_inclusive = 1; end_inclusive = usize_max });
}

abbrev pub rule : List ℕ → Kind → Rule
rule name kinds.Flag = flag name
rule name kinds.Optional = optional name
rule name kinds.Several = several name
rule name (kinds.Default value) = with_default name value.now
rule name kinds.Files = files name
rule name kinds.Required = required name
rule name kinds.Last = after_others name

-- the program with these rules for options and arguments
abbrev pub with_rules : App → List Rule → App
with_rules app [] = app
with_rules app (r ∷ rs) = with_rules (with_rule app r) rs

-- the program with these options and arguments
abbrev pub with_options : App → List (Bor (List ℕ) × Kind) → App
with_options app options = with_rules app (map (λ o. rule o.0.now o.1) options)

-- the program without options except for `--version`, since it has a version
abbrev pub plain : App
plain = let app = new_app (codes "toml-span") in record app { top = record app.top { has_version = true } }

-- `check [OPTION].. [FILE]..`
unfoldable pub check : App
check = with_rules plain (
    with_default (codes "format") (codes "text") ∷ with_default (codes "color") (codes "auto")
    ∷ optional (codes "schema") ∷ optional (codes "catalog") ∷ several (codes "schema-map") ∷ flag (codes "no-formats")
    ∷ flag (codes "fix") ∷ flag (codes "unsafe-fixes") ∷ flag (codes "diff")
    ∷ flag (codes "force") ∷ flag (codes "change-owner") ∷ flag (codes "in-place")
    ∷ optional (codes "config") ∷ flag (codes "no-config") ∷ flag (codes "force-exclude")
    ∷ flag (codes "deny-warnings") ∷ flag (codes "quiet") ∷ optional (codes "toml")
    ∷ several (codes "exclude") ∷ with_default (codes "stdin-name") (codes "-") ∷ files (codes "FILE") ∷ [])

-- `get [OPTION].. FILE.. PATH`
unfoldable pub get : App
get = with_rules plain (
    with_default (codes "format") (codes "text") ∷ with_default (codes "color") (codes "auto")
    ∷ flag (codes "json") ∷ flag (codes "raw") ∷ flag (codes "toml") ∷ flag (codes "tagged") ∷ flag (codes "items")
    ∷ flag (codes "sort-keys") ∷ required (codes "FILE") ∷ after_others (codes "PATH") ∷ [])

abbrev pub program : Query → App
program queries.Check = check
program queries.Get = get

-- ---- the meaning of the options

-- the value of the option or argument `name`, or an empty text if it has no value
abbrev pub value_of : List Row → List ℕ → List ℕ
value_of rows name = unwrap_or (first_of name rows) []

-- the values of an option that may be repeated
abbrev pub values_of : List Row → List ℕ → List (List ℕ)
values_of rows name = unwrap_or (all_of name rows) []

-- the last of these arguments, or an empty text
abbrev pub last : List (List ℕ) → List ℕ
last words = unwrap_or (slice_get words (length words - 1)) []

-- these arguments without the last one
abbrev pub but_last : List (List ℕ) → List (List ℕ)
but_last words = take (length words - 1) words

-- the path of `get`: the last argument
abbrev pub path_of : List Row → List ℕ
path_of rows = last (values_of rows (codes "PATH"))

-- the names of files: for `get`, all arguments but the last one
abbrev pub names_of : List Row → List (List ℕ)
names_of rows = values_of rows (codes "FILE") ++ but_last (values_of rows (codes "PATH"))

abbrev pub is_given : List Row → List ℕ → Bool
is_given rows name = bytes_eq (value_of rows name) (codes "true")

abbrev pub style_named : List ℕ → Bool → Option Style
style_named name auto_is_coloured =
    if bytes_eq name (codes "always") then Some Coloured
    else if bytes_eq name (codes "never") then Some Plain
    else if bytes_eq name (codes "auto") then Some (if auto_is_coloured then Coloured else Plain)
    else None

abbrev pub format_named : List ℕ → Style → Option Format
format_named name style =
    if bytes_eq name (codes "text") then Some (Text style)
    else if bytes_eq name (codes "short") then Some Short
    else if bytes_eq name (codes "json") then Some Json
    else if bytes_eq name (codes "github") then Some Github
    else if bytes_eq name (codes "sarif") then Some Sarif
    else None

-- `chosen` is the form that the flags so far have chosen, if any. Returns the form after one more flag, which chooses
-- `form` if it is set, or a mistake if two flags choose a form.
abbrev pub with_form : Result (Option Form) Mistake → Bool → Form → Result (Option Form) Mistake
with_form chosen false form = chosen
with_form (Ok None) true form = Ok (Some form)
with_form (Ok (Some earlier)) true form = Err mistake.Forms
with_form (Err mistake) true form = Err mistake

-- the form in which to print the value, if a flag chooses one; a mistake if several flags do
abbrev pub form_of : List Row → Result (Option Form) Mistake
form_of rows =
    with_form (with_form (with_form (with_form (with_form (Ok None)
    (is_given rows (codes "json")) form.Plain) (is_given rows (codes "raw")) form.Raw)
    (is_given rows (codes "toml")) form.Toml) (is_given rows (codes "tagged")) form.Tagged)
    (is_given rows (codes "items")) form.Items

-- the task to print a value in this form, with sorted keys or not
abbrev pub shows : Result (Option Form) Mistake → Bool → Result Task Mistake
shows (Ok chosen) is_sorted =
    Ok (Show (record { form = unwrap_or chosen form.Plain; is_sorted = is_sorted; is_named = false }))
shows (Err mistake) is_sorted = Err mistake

abbrev pub version_named : List ℕ → Option Version
version_named name =
    if bytes_eq name (codes "auto") then Some version.Auto
    else if bytes_eq name (codes "1.0") then Some version.Toml10
    else if bytes_eq name (codes "1.1") then Some version.Toml11
    else if bytes_eq name (codes "") then Some version.Auto
    else None

-- `Arguments` if `--schema` or `--catalog` has a value that is not empty, otherwise `Files`
abbrev pub chooser_of : List Row → Chooser
chooser_of rows =
    if length (value_of rows (codes "schema")) == 0 && length (value_of rows (codes "catalog")) == 0 then Files
    else Arguments

abbrev pub checks : Option Version → Chooser → Result Task Mistake
checks (Some version) chooser = Ok (Check version chooser)
checks None chooser = Err mistake.Version

-- whether each of these values contains an `=`
unfoldable pub are_maps : List (List ℕ) → Bool
are_maps [] = true
are_maps (m ∷ ms) = if has 61 m then are_maps ms else false

abbrev pub level_of : List Row → FixLevel
level_of rows = if is_given rows (codes "unsafe-fixes") then Unsafe else Safe

-- what to do with the fixes of errors
abbrev pub fixing_of : List Row → Fixing
fixing_of rows =
    if is_given rows (codes "fix")
    then (if is_given rows (codes "diff") then fixings.Diff (level_of rows) else fixings.Write (level_of rows))
    else fixings.No

-- whether there is an option that says how files are written
abbrev pub has_writing : List Row → Bool
has_writing rows =
    is_given rows (codes "force") || is_given rows (codes "change-owner") || is_given rows (codes "in-place")

-- how fixed files are written
abbrev pub writing_of : List Row → Writing
writing_of rows = record USUAL {
  is_forced = is_given rows (codes "force");
  may_change_owner = is_given rows (codes "change-owner");
  is_in_place = is_given rows (codes "in-place");
}

-- which configuration file to use, by the value of `--config` and whether `--no-config` is given
abbrev pub search_of : Bor (List ℕ) → Bool → Search
search_of config true = search.No
search_of config false = if length config.now == 0 then search.Nearest else search.Given config

-- whether there is an option that needs `--fix`, but not `--fix`
abbrev pub lacks_fix : List Row → Bool
lacks_fix rows =
    not (is_given rows (codes "fix"))
    && (is_given rows (codes "diff") || is_given rows (codes "unsafe-fixes") || has_writing rows)

-- the task, or the mistake in the arguments
abbrev pub task_of : Query → List Row → Result Task Mistake
task_of queries.Check rows =
    if are_maps (values_of rows (codes "schema-map"))
    then (if lacks_fix rows then Err mistake.Fix
    else checks (version_named (value_of rows (codes "toml"))) (chooser_of rows))
    else Err mistake.Map
task_of queries.Get rows =
    if is_bytes (path_of rows) then Err mistake.Path
    else shows (form_of rows) (is_given rows (codes "sort-keys"))

-- the format and the task; SARIF is a mistake if the task is to print a value
abbrev pub with_task : Format → Task → Result (Format × Task) Mistake
with_task Sarif (Show printing) = Err mistake.Sarif
with_task format task = Ok (format, task)

abbrev pub asked_of : Format → Result Task Mistake → Result (Format × Task) Mistake
asked_of format (Ok task) = with_task format task
asked_of format (Err mistake) = Err mistake

abbrev pub with_format : Option Format → Result Task Mistake → Result (Format × Task) Mistake
with_format (Some format) task = asked_of format task
with_format None task = Err mistake.Format

abbrev pub with_style : Option Style → Query → List Row → Result (Format × Task) Mistake
with_style (Some style) query rows =
    with_format (format_named (value_of rows (codes "format")) style) (task_of query rows)
with_style None query rows = Err mistake.Color

-- the format and the task, or the mistake in the arguments
abbrev pub asked : Query → List Row → Bool → Result (Format × Task) Mistake
asked query rows auto_is_coloured = with_style (style_named (value_of rows (codes "color")) auto_is_coloured) query rows

-- whether reports have colors with `--color auto`; those of `get` are on standard error
abbrev pub coloured : Query → Screen → Bool
coloured queries.Check screen = screen.is_coloured
coloured queries.Get screen = screen.has_coloured_errors

-- the options in the arguments `words`, with their values
unfoldable pub options : Query → List (List ℕ) → List Row
options query words = matches_of (program query) words

-- What the arguments `words` mean, if they are right: what to do with which files, and what to do with fixes.
pub record Asks (query : Query) (words : List (List ℕ)) (screen : Screen) (request : Request) (fixing : Fixing)
    : Type 0 where
  pub what : asked query (options query words) (coloured query screen) ≡ Ok (request.format, request.task)
  pub place : request.pointer.now ≡ path_of (options query words)
  pub left_out : map (λ pattern. pattern.now) request.excludes.items
      ≡ unwrap_or (all_of (codes "exclude") (options query words)) []
  pub files : map (λ name. name.now) request.names.items ≡ names_of (options query words)
  pub quiet : request.is_quiet ≡ is_given (options query words) (codes "quiet")
  pub watched : request.is_watched ≡ screen.is_watched
  pub fixes : fixing ≡ fixing_of (options query words)

-- What the other options set: whether a version of TOML is given, the name of standard input, how fixed files are
-- written, which schemas and which configuration files apply, and whether these exclude named files and warnings are
-- errors.
pub record Sets (rows : List Row) (o : Options) : Type 0 where
  pub version : o.is_version_given ≡ not (length (value_of rows (codes "toml")) == 0)
  pub stdin_name : o.stdin_name.now ≡ value_of rows (codes "stdin-name")
  pub writing : o.writing ≡ writing_of rows
  pub schema : o.schemas.schema.now ≡ value_of rows (codes "schema")
  pub catalog : o.schemas.catalog.now ≡ value_of rows (codes "catalog")
  pub maps : map (λ m. m.now) o.schemas.maps.items ≡ values_of rows (codes "schema-map")
  pub formats : o.schemas.has_formats ≡ not (is_given rows (codes "no-formats"))
  pub config : o.config.now ≡ value_of rows (codes "config")
  pub no_config : o.has_no_config ≡ is_given rows (codes "no-config")
  pub exclusion : o.forces_exclude ≡ is_given rows (codes "force-exclude")
  pub warnings : o.denies_warnings ≡ is_given rows (codes "deny-warnings")

-- ---- mistakes in the options

abbrev pub kind_of : Mistake → ErrorKind
kind_of mistake.Format = InvalidValue
kind_of mistake.Color = InvalidValue
kind_of mistake.Version = InvalidValue
kind_of mistake.Forms = ArgumentConflict
kind_of mistake.Path = InvalidValue
kind_of mistake.Sarif = ArgumentConflict
kind_of mistake.Map = InvalidValue
kind_of mistake.Fix = MissingRequiredArgument

abbrev pub mistake_kinds : Result (Format × Task) Mistake → Kinds
mistake_kinds (Ok what) = []
mistake_kinds (Err mistake) = kind_of mistake ∷ []

-- the kinds of error that clap may return for the arguments `words`, such as `DisplayHelp` if they ask for help; empty
-- if clap finds no mistake
unfoldable pub refusals : Query → List (List ℕ) → Kinds
refusals query words = fault_of (program query) words

-- the kinds of error that the arguments `words` may cause; empty if they are right
abbrev pub faults : Query → List (List ℕ) → Bool → Kinds
faults query words auto_is_coloured =
    or_else (refusals query words) (mistake_kinds (asked query (options query words) auto_is_coloured))
