-- Whether reports have colors if no option decides.
use Rattle.std.specs.Prelude.{ℕ, Bool, true, false, ◌&&◌, ◌||◌, not, ◌==◌, List, length, codes, if◌then◌else◌}
use Rattle.std.specs.Str.{bytes_eq}

-- The values of `NO_COLOR`, `CLICOLOR_FORCE` and `TERM` decide: if `NO_COLOR` is not empty, colors are off; otherwise,
-- if `CLICOLOR_FORCE` is neither empty nor `0`, they are on; otherwise they are on for a terminal, unless `TERM` is
-- `dumb`.
abbrev pub has_colours : Bool → List ℕ → List ℕ → List ℕ → Bool
has_colours is_terminal no_color force term =
    if not (length no_color == 0) then false
    else if length force == 0 || bytes_eq force (codes "0") then is_terminal && not (bytes_eq term (codes "dumb"))
    else true
