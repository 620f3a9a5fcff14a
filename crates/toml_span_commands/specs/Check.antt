-- What `check` does: with `--fix`, it fixes errors first; then it checks the files. With `--diff`, it shows what the
-- fixes would change instead of the reports of the check.
use Rattle.std.specs.Prelude.{◌≡◌, ◌⊎◌, ◌≤◌, ℕ, max, Bool, true, List, [], Option, None}
use Rattle.std.specs.Io.KnownBytes.{Appends, Keeps}
use Rattle.toml_span_lines.specs.Run.{HasWritten}
use Rattle.toml_span_check.specs.declared.request.Request.{Request}
use Rattle.toml_span_commands.specs.Configured.{IsConfigured, configured_says}
use Rattle.toml_span_commands.specs.Options.{Asks, faults}
use Rattle.toml_span_commands.specs.Escaped.{escaped}
use Rattle.toml_span_commands.specs.Say.{Prints}
use Rattle.toml_span_commands.specs.Start.{Declines, RunsWith}
use Rattle.toml_span_commands.specs.declared.colours.Screen.{Screen}
use Rattle.toml_span_commands.specs.declared.configured.Configured.{Configured}
use Rattle.toml_span_commands.specs.declared.options.Fixing.{Fixing}
use Rattle.toml_span_commands.specs.declared.options.Fixing.TheVariants.{Diff, No, Write}
use Rattle.toml_span_commands.specs.declared.options.Query.TheVariants as queries

-- After files have been fixed, these lines are written to standard error: why files were not written, and how many
-- errors were fixed. There may be no line. Then all files are checked, and the status is at least `unwritten`, which is
-- 3 if a file was not written, and 1 if a file would change. If the lines can't be written, the status is 3.
abbrev pub ChecksFixed : List ℕ → ℕ → Request → Option (List ℕ) → Option (List ℕ) → Bool → Option (List ℕ)
    → Option (List ℕ) → Bool → ℕ → Type 0
ChecksFixed lines unwritten request stdout stdout' out_failed stderr stderr' err_failed status =
    ((mid : Option (List ℕ)) × (checked : ℕ) × Appends stderr mid lines
    × RunsWith configured_says request None None stdout stdout' out_failed mid stderr' err_failed checked
    × (status ≡ max checked unwritten))
    ⊎ ((status ≡ 3) × (err_failed ≡ true) × Keeps stdout stdout' × HasWritten stderr stderr' lines)

-- What the fixes would change is written to standard output, escaped for a terminal. Then the files are checked with
-- these changes, as `ChecksFixed` says, except that the reports are written nowhere. If the changes can't be written,
-- the status is 3.
abbrev pub ShowsChanges : List ℕ → List ℕ → ℕ → Request → Option (List ℕ) → Option (List ℕ) → Option (List ℕ)
    → Option (List ℕ) → Bool → ℕ → Type 0
ShowsChanges changes lines unwritten request stdout stdout' stderr stderr' err_failed status =
    (is_terminal : Bool)
    × (((nowhere nowhere' : Option (List ℕ)) × (failed : Bool) × Appends stdout stdout' (escaped is_terminal changes)
    × ChecksFixed lines unwritten request nowhere nowhere' failed stderr stderr' err_failed status)
    ⊎ ((status ≡ 3) × HasWritten stdout stdout' (escaped is_terminal changes) × Keeps stderr stderr'))

-- What `check` does with right arguments, which make this request and ask for these fixes.
abbrev pub ChecksWith : Fixing → Request → Option (List ℕ) → Option (List ℕ) → Bool → Option (List ℕ)
    → Option (List ℕ) → Bool → ℕ → Type 0
ChecksWith No request stdout stdout' out_failed stderr stderr' err_failed status =
    RunsWith configured_says request None None stdout stdout' out_failed stderr stderr' err_failed status
ChecksWith (Write level) request stdout stdout' out_failed stderr stderr' err_failed status =
    (lines : List ℕ) × (unwritten : ℕ) × (unwritten ≤ 3)
    × ChecksFixed lines unwritten request stdout stdout' out_failed stderr stderr' err_failed status
ChecksWith (Diff level) request stdout stdout' out_failed stderr stderr' err_failed status =
    (changes lines : List ℕ) × (unwritten : ℕ) × (unwritten ≤ 3)
    × ShowsChanges changes lines unwritten request stdout stdout' stderr stderr' err_failed status

-- Configuration files may say the version of TOML of these files, unless the arguments name one, and name schemas. If a
-- configuration file can't be read or is wrong, only a message is written to standard error, with status 2.
abbrev pub ChecksConfigured : Fixing → Request → Option (List ℕ) → Option (List ℕ) → Bool → Option (List ℕ)
    → Option (List ℕ) → Bool → ℕ → Type 0
ChecksConfigured fixing request stdout stdout' out_failed stderr stderr' err_failed status =
    ((files : List Configured) × (made : Request) × IsConfigured files request made
    × ChecksWith fixing made stdout stdout' out_failed stderr stderr' err_failed status)
    ⊎ ((message : List ℕ) × Keeps stdout stdout' × Prints stderr stderr' err_failed message 2 status)

abbrev pub PerformsCheck : List (List ℕ) → Screen → Option (List ℕ) → Option (List ℕ) → Bool → Option (List ℕ)
    → Option (List ℕ) → Bool → ℕ → Type 0
PerformsCheck words screen stdout stdout' out_failed stderr stderr' err_failed status =
    ((request : Request) × (fixing : Fixing) × (faults queries.Check words screen.is_coloured ≡ [])
    × Asks queries.Check words screen request fixing
    × ChecksConfigured fixing request stdout stdout' out_failed stderr stderr' err_failed status)
    ⊎ Declines queries.Check words screen.is_coloured stdout stdout' out_failed stderr stderr' err_failed status
