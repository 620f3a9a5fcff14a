-- What `check` and `get` do with their arguments.
use Rattle.std.specs.Prelude.{map, ◌≡◌, ◌≢◌, ◌⊎◌, ℕ, Bool, true, false, List, [], Option, Some, None, Ok, Err, String}
use Rattle.std.specs.Prelude.{string_bytes}
use Rattle.std.specs.Global.{Global}
use Rattle.std.specs.Io.KnownBytes.{Keeps}
use Rattle.clap.specs.Kinds.{IsAmong}
use Rattle.clap.specs.declared.error.kind.ErrorKind.{ErrorKind}
use Rattle.clap.specs.declared.error.kind.ErrorKind.TheVariants.{DisplayHelp, DisplayVersion, OutOfMemory}
use Rattle.toml_span_commands.specs.Options.{Asks, coloured, faults}
use Rattle.toml_span_commands.specs.Say.{Prints}
use Rattle.toml_span_report.specs.Visible.{visible_lines}
use Rattle.toml_span_check.specs.Run.{Asked, Runs}
use Rattle.toml_span_check.specs.Schemas.{Says}
use Rattle.toml_span_places.specs.Dotted.{IsPath}
use Rattle.toml_span_places.specs.declared.dotted.PathError.{PathError}
use Rattle.toml_span_commands.specs.declared.colours.Screen.{Screen}
use Rattle.toml_span_commands.specs.declared.help.TheConstants.{CHECK, GET, VERSION}
use Rattle.toml_span_commands.specs.declared.options.Fixing.{Fixing}
use Rattle.toml_span_commands.specs.declared.options.Query.{Query}
use Rattle.toml_span_commands.specs.declared.options.Query.TheVariants as queries
use Rattle.toml_span_check.specs.declared.request.Request.{Request}

abbrev pub help_of : Query → List ℕ
help_of queries.Check = CHECK.now
help_of queries.Get = GET.now

-- The output and the exit status for clap's error of this kind: the help or the version, if the arguments ask for one
-- of them, otherwise a message about the mistake in the arguments. Nothing is printed if an allocation fails.
abbrev pub Refuses : Query → ErrorKind → Option (List ℕ) → Option (List ℕ) → Bool → Option (List ℕ) → Option (List ℕ)
    → Bool → ℕ → Type 0
Refuses query kind stdout stdout' out_failed stderr stderr' err_failed status =
    ((kind ≡ DisplayHelp) × Prints stdout stdout' out_failed (help_of query) 0 status × Keeps stderr stderr')
    ⊎ ((kind ≡ DisplayVersion) × Prints stdout stdout' out_failed VERSION.now 0 status × Keeps stderr stderr')
    ⊎ ((kind ≢ DisplayHelp) × (kind ≢ DisplayVersion) × Keeps stdout stdout'
    × ((message : List ℕ) × Prints stderr stderr' err_failed (visible_lines message) 2 status))
    ⊎ ((status ≡ 4) × Keeps stdout stdout' × Keeps stderr stderr')

-- the message that the path of the value to print can't be read, or `None` if the path can be read
abbrev pub SaysOfPath : List ℕ → Option (String Global) → Type 0
SaysOfPath path None = (segments : List (List ℕ)) × IsPath path (Ok segments)
SaysOfPath path (Some text) =
    (e : PathError) × IsPath path (Err e) × ((message : List ℕ) × (string_bytes text ≡ visible_lines message))

-- What a command does with right arguments, which make this request. `says` is the relation between documents and the
-- reports of their schemas. If the path can be read, the command runs on the files that the arguments name. Otherwise
-- no file is read. If an allocation fails before that, nothing is printed, and the status is 4.
abbrev pub RunsWith : Says → Request → Option Asked → Option Asked → Option (List ℕ) → Option (List ℕ) → Bool
    → Option (List ℕ) → Option (List ℕ) → Bool → ℕ → Type 0
RunsWith says request old new stdout stdout' out_failed stderr stderr' err_failed status =
    (((segments : List (List ℕ)) × IsPath request.pointer.now (Ok segments))
    × Runs says request.format request.task request.pointer.now (map (λ pattern. pattern.now) request.excludes.items)
    (map (λ name. name.now) request.names.items) request.is_watched request.is_quiet old new stdout stdout' out_failed
    stderr stderr' err_failed status)
    ⊎ (((e : PathError) × IsPath request.pointer.now (Err e)) × (new ≡ old) × Keeps stdout stdout'
    × ((message : List ℕ) × Prints stderr stderr' err_failed (visible_lines message) 2 status))
    ⊎ ((status ≡ 4) × (new ≡ old) × Keeps stdout stdout' × Keeps stderr stderr')

-- The arguments `words` are wrong, or ask for the help or the version, or an allocation fails. No file is read.
abbrev pub Declines : Query → List (List ℕ) → Bool → Option (List ℕ) → Option (List ℕ) → Bool → Option (List ℕ)
    → Option (List ℕ) → Bool → ℕ → Type 0
Declines query words auto_is_coloured stdout stdout' out_failed stderr stderr' err_failed status =
    (kind : ErrorKind) × ((kind ≡ OutOfMemory) ⊎ IsAmong kind (faults query words auto_is_coloured))
    × Refuses query kind stdout stdout' out_failed stderr stderr' err_failed status

-- How a command with the arguments `words` is carried out.
abbrev pub Starts : Says → Query → List (List ℕ) → Screen → Option Asked → Option Asked
    → Option (List ℕ) → Option (List ℕ) → Bool → Option (List ℕ) → Option (List ℕ) → Bool → ℕ → Type 0
Starts says query words screen old new stdout stdout' out_failed stderr stderr' err_failed status =
    ((request : Request) × (fixing : Fixing) × (faults query words (coloured query screen) ≡ [])
    × Asks query words screen request fixing
    × RunsWith says request old new stdout stdout' out_failed stderr stderr' err_failed status)
    ⊎ ((new ≡ old)
    × Declines query words (coloured query screen) stdout stdout' out_failed stderr stderr' err_failed status)
