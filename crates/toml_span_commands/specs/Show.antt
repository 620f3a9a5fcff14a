-- What `show` prints.
use Rattle.std.specs.Prelude.{◌⊎◌, ℕ, Bool, true, false, List, [], ◌∷◌, Option, Some, codes}
use Rattle.std.specs.Io.KnownBytes.{Keeps}
use Rattle.toml_span_check.specs.Run.{complaint}
use Rattle.toml_span_check.specs.Words.{shown_word}
use Rattle.toml_span_commands.specs.Say.{Prints, Warns}
use Rattle.toml_span_commands.specs.Words.{is_help}
use Rattle.toml_span_commands.specs.declared.help.TheConstants.{SHOW}
use Rattle.toml_span_lines.specs.Run.{Runs}
use Rattle.toml_span_read.specs.Data.{depth_limit}

-- The message that the file `name` can't be read, for this `reason`, is written to standard error. The status is 2, or
-- 3 if the write fails.
pub record PrintsUnread (name reason : List ℕ) (stderr stderr' : Option (List ℕ)) (err_failed : Bool) (status : ℕ)
    : Type 0 where
  pub says : Prints stderr stderr' err_failed (complaint (shown_word name) reason) 2 status

-- The lines that `toml_span_lines` prints for the bytes of a file are written. Or the file can't be read, as
-- `PrintsUnread` states.
pub record ShowsFile (name : List ℕ) (stdout stdout' : Option (List ℕ)) (out_failed : Bool)
    (stderr stderr' : Option (List ℕ)) (err_failed : Bool) (status : ℕ) : Type 0 where
  pub shows : ((bytes : List ℕ) × (left : Option (List ℕ)) × (unread : Bool)
      × Runs depth_limit (Some bytes) left unread stdout stdout' out_failed status × Keeps stderr stderr')
      ⊎ (Keeps stdout stdout' × ((reason : List ℕ) × PrintsUnread name reason stderr stderr' err_failed status))

-- The help is printed if the argument asks for it (`true`), otherwise the file with this name is shown.
abbrev pub ShowsWord : Bool → List ℕ → Option (List ℕ) → Option (List ℕ) → Bool → Option (List ℕ) → Option (List ℕ)
    → Bool → ℕ → Type 0
ShowsWord true word stdout stdout' out_failed stderr stderr' err_failed status =
    Prints stdout stdout' out_failed SHOW.now 0 status × Keeps stderr stderr'
ShowsWord false word stdout stdout' out_failed stderr stderr' err_failed status =
    ShowsFile word stdout stdout' out_failed stderr stderr' err_failed status

-- `show FILE`. The first of `words` is the command's name. For any other number of arguments, a message is written to
-- standard error, and the status is 2, or 3 if the write fails.
abbrev pub PerformsShow : List (List ℕ) → Option (List ℕ) → Option (List ℕ) → Bool → Option (List ℕ)
    → Option (List ℕ) → Bool → ℕ → Type 0
PerformsShow (command ∷ word ∷ []) stdout stdout' out_failed stderr stderr' err_failed status =
    ShowsWord (is_help word) word stdout stdout' out_failed stderr stderr' err_failed status
PerformsShow words stdout stdout' out_failed stderr stderr' err_failed status =
    Keeps stdout stdout' × Warns stderr stderr' err_failed 2 status
