-- How files are written, and the exit status for a file that is not edited.
use Rattle.std.specs.Prelude.{ℕ, Bool, true, false, List, codes, if◌then◌else◌}
use Rattle.std.specs.Str.{bytes_eq}
use Rattle.toml_span_files.specs.declared.disk.Options.{Options}
use Rattle.toml_span_files.specs.declared.failure.Failure.{Failure}
use Rattle.toml_span_files.specs.declared.failure.Failure.TheVariants.{Directory, ResultTooLong, TooLong, Unread}

-- the options with one more that says how files are written, and whether this argument is one
unfoldable pub with_write : Options → List ℕ → Options × Bool
with_write options word =
    if bytes_eq word (codes "--force") then (record options { is_forced = true }, true)
    else if bytes_eq word (codes "--change-owner") then (record options { may_change_owner = true }, true)
    else if bytes_eq word (codes "--in-place") then (record options { is_in_place = true }, true)
    else (options, false)

-- 2 for a file that can't be read, 1 for one that is too long before or after the edit, otherwise 3
abbrev pub failure_status : Failure → ℕ
failure_status (Unread error) = 2
failure_status Directory = 2
failure_status TooLong = 1
failure_status ResultTooLong = 1
failure_status other = 3
