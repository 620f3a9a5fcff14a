-- Dates and times in the form of the test suite `toml-test`.
use Rattle.std.specs.Prelude.{ℕ, ◌==◌, ◌||◌, nat_lt, Bool, List, ◌++◌, codes, length, take, drop}
use Rattle.std.specs.Prelude.{slice_index, if◌then◌else◌}
use Rattle.std.specs.List.{list_any}

-- whether a byte can begin a time offset: `Z`, `z`, `+` or `-`
abbrev pub begins_offset : ℕ → Bool
begins_offset byte = (byte == 90 || byte == 122) || (byte == 43 || byte == 45)

-- whether a date text is a time alone, such as `07:32:00`
abbrev pub is_time : List ℕ → Bool
is_time date = slice_index date 2 == 58

abbrev pub date_type : List ℕ → List ℕ
date_type date =
    if is_time date then codes "time-local"
    else if nat_lt (length date) 11 then codes "date-local"
    else if list_any begins_offset (drop 11 date) then codes "datetime"
    else codes "datetime-local"

-- the position after the minutes in a date text with a time
abbrev pub minutes_end : List ℕ → ℕ
minutes_end date = if is_time date then 5 else 16

-- whether a date text has a time without seconds: the text ends after the minutes, or a time offset begins there
abbrev pub lacks_seconds : List ℕ → ℕ → Bool
lacks_seconds date at = length date == at || begins_offset (slice_index date at)

-- A date text, with seconds if it has a time: `07:32` becomes `07:32:00`, and `1979-05-27 07:32Z` becomes `1979-05-27
-- 07:32:00Z`.
abbrev pub with_seconds : List ℕ → List ℕ
with_seconds date =
    if lacks_seconds date (minutes_end date)
    then take (minutes_end date) date ++ codes ":00" ++ drop (minutes_end date) date
    else date
