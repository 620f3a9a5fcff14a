-- Texts that are printed, and the exit status.
use Rattle.std.specs.Prelude.{◌≡◌, ◌⊎◌, ℕ, Bool, true, false, List, Option, if◌then◌else◌}
use Rattle.std.specs.Io.KnownBytes.{Appends, Keeps}
use Rattle.toml_span_lines.specs.Run.{HasWritten}

-- `text` is written, and the exit status is `said`. If a write fails, only a prefix is written, and the status is 3.
pub record Prints (old new : Option (List ℕ)) (failed : Bool) (text : List ℕ) (said status : ℕ) : Type 0 where
  pub written : HasWritten old new text
  pub whole : failed ≡ false → Appends old new text
  pub ended : status ≡ (if failed then 3 else said)

-- Some text is written, as `Prints` states.
abbrev pub Warns : Option (List ℕ) → Option (List ℕ) → Bool → ℕ → ℕ → Type 0
Warns old new failed said status = (text : List ℕ) × Prints old new failed text said status

-- The texts `errors` and then `text` are written, and the exit status is `said`. If a write fails, nothing more is
-- written, and the status is 3.
abbrev pub Gives : List ℕ → List ℕ → ℕ → Option (List ℕ) → Option (List ℕ) → Bool → Option (List ℕ)
    → Option (List ℕ) → Bool → ℕ → Type 0
Gives text errors said stdout stdout' out_failed stderr stderr' err_failed status =
    (Appends stderr stderr' errors × Prints stdout stdout' out_failed text said status)
    ⊎ ((status ≡ 3) × (err_failed ≡ true) × Keeps stdout stdout' × HasWritten stderr stderr' errors)
