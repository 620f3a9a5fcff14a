-- Leap seconds of the formats `time` and `date-time`.
use Rattle.std.specs.Prelude.{ℕ, ◌+◌, ◌-◌, ◌*◌, ◌%◌, ◌==◌, List, length, drop, min, Bool, ◌||◌, ◌&&◌, not, if◌then◌else◌}
use Rattle.std.specs.Prelude.{Option, Some, None, slice_get, slice_index, nat_lt}

-- the number in two ASCII digits, or 0 if one of them is missing
abbrev pub two_of : Option ℕ → Option ℕ → ℕ
two_of (Some ten) (Some one) = (ten - 48) * 10 + (one - 48)
two_of _ _ = 0

abbrev pub two_digits : List ℕ → ℕ → ℕ
two_digits text i = two_of (slice_get text i) (slice_get text (i + 1))

-- 1440, the minutes of a day, plus the minutes that a time zone, such as `+01:30`, is ahead of UTC
abbrev pub ahead_by : Option ℕ → ℕ → ℕ
ahead_by None minutes = 1440
ahead_by (Some c) minutes = if c == 43 then 1440 + minutes else (if c == 45 then 1440 - minutes else 1440)

abbrev pub ahead : List ℕ → ℕ
ahead zone = ahead_by (slice_get zone 0) (two_digits zone 1 * 60 + two_digits zone 4)

-- Whether a time has no second 60, or is 23:59:60 UTC. The time zone is its last six characters, or a `Z`.
abbrev pub fits_leap : List ℕ → Bool
fits_leap time =
    not (two_digits time 6 == 60)
    || (two_digits time 0 * 60 + two_digits time 3 + 2880 - ahead (drop (length time - 6) time)) % 1440 == 1439

-- whether the time in a text, which is a time or a date and a time, has no second 60, or is 23:59:60 UTC
abbrev pub fits_leap_second : List ℕ → Bool
fits_leap_second text =
    fits_leap (if nat_lt 2 (length text) && slice_index text 2 == 58 then text else drop (min (length text) 11) text)
