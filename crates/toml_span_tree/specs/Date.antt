-- Date texts: dates and times, with or without offsets (TOML 1.1, "Offset Date-Time" to "Local Time", after RFC 3339).
-- A rule "at i" or "at the front" is about the bytes from there on, any other rule about the whole text. Bytes after
-- the end of a text count as 0.
use Rattle.std.specs.Prelude.{◌≡◌, ◌⊎◌, [], ◌∷◌, ◌++◌, ℕ, ◌+◌, ◌-◌, ◌*◌, ◌%◌, Bool, true, not, ◌&&◌, ◌||◌, ◌==◌, nat_lt}
use Rattle.std.specs.Prelude.{nat_le, List, length, take, drop, slice_index, if◌then◌else◌}
use Rattle.std.specs.List.{list_all}
use Rattle.std.specs.Char.{is_ascii_digit}
use Rattle.toml_span_lex.specs.Bytes.{space, plus, dash, period, digit_zero, colon}

-- Toolchain: as an `abbrev`, the check of a date takes too long ("computing it took more than 200000 steps"). So the
-- checks are Bool-valued, and the large ones `unfoldable`.
-- the number that the two digits at i spell
abbrev pub two_digits : List ℕ → ℕ → ℕ
two_digits text i = 10 * (slice_index text i - digit_zero) + (slice_index text (i + 1) - digit_zero)

-- `2DIGIT` at i, whose value is from low to high
abbrev pub is_two_digits : ℕ → ℕ → List ℕ → ℕ → Bool
is_two_digits low high text i =
    is_ascii_digit (slice_index text i) && is_ascii_digit (slice_index text (i + 1))
    && nat_le low (two_digits text i) && nat_le (two_digits text i) high

abbrev pub is_leap_year : ℕ → Bool
is_leap_year year = (year % 4 == 0 && not (year % 100 == 0)) || year % 400 == 0

-- the last day of a month; months are numbered from 1 to 12
abbrev pub last_day : ℕ → ℕ → ℕ
last_day year month =
    if month == 2 then (if is_leap_year year then 29 else 28)
    else (if month == 4 || month == 6 || month == 9 || month == 11 then 30 else 31)

-- the number that the four digits at the front spell: `date-fullyear = 4DIGIT`
abbrev pub year_of : List ℕ → ℕ
year_of text = 100 * two_digits text 0 + two_digits text 2

abbrev pub has_year : List ℕ → Bool
has_year text = is_two_digits 0 99 text 0 && is_two_digits 0 99 text 2

-- `full-date = date-fullyear "-" date-month "-" date-mday`
unfoldable pub is_full_date : List ℕ → Bool
is_full_date text =
    length text == 10 && has_year text
    && slice_index text 4 == dash && is_two_digits 1 12 text 5
    && slice_index text 7 == dash && is_two_digits 1 (last_day (year_of text) (two_digits text 5)) text 8

-- `time-hour ":" time-minute`, at the front
abbrev pub has_hour_minute : List ℕ → Bool
has_hour_minute text = is_two_digits 0 23 text 0 && slice_index text 2 == colon && is_two_digits 0 59 text 3

-- `time-secfrac = "." 1*DIGIT`
abbrev pub is_time_secfrac : List ℕ → Bool
is_time_secfrac text =
    slice_index text 0 == period && nat_lt 1 (length text) && list_all is_ascii_digit (drop 1 text)

-- `[ ":" time-second [ time-secfrac ] ]`; the second may be 60 in any minute, since leap seconds are not checked
abbrev pub is_seconds : List ℕ → Bool
is_seconds text =
    length text == 0
    || (slice_index text 0 == colon && is_two_digits 0 60 text 1
    && (length text == 3 || is_time_secfrac (drop 3 text)))

-- `partial-time = time-hour ":" time-minute [ ":" time-second [ time-secfrac ] ]`
unfoldable pub is_partial_time : List ℕ → Bool
is_partial_time text = has_hour_minute text && is_seconds (drop 5 text)

-- `"Z"`, of either case: %x5A or %x7A
abbrev pub is_utc : List ℕ → Bool
is_utc text = length text == 1 && (slice_index text 0 == 0x5A || slice_index text 0 == 0x7A)

-- `time-numoffset = ( "+" / "-" ) time-hour ":" time-minute`
abbrev pub is_time_numoffset : List ℕ → Bool
is_time_numoffset text =
    length text == 6 && (slice_index text 0 == plus || slice_index text 0 == dash) && has_hour_minute (drop 1 text)

-- `time-offset = "Z" / time-numoffset`
unfoldable pub is_time_offset : List ℕ → Bool
is_time_offset text = is_utc text || is_time_numoffset text

-- a time followed by an offset of n bytes
abbrev pub is_time_with : ℕ → List ℕ → Bool
is_time_with n text =
    is_time_offset (drop (length text - n) text) && is_partial_time (take (length text - n) text)

-- `partial-time [ time-offset ]`, where a `time-offset` has one or six bytes
unfoldable pub is_time : List ℕ → Bool
is_time text = is_partial_time text || is_time_with 1 text || is_time_with 6 text

-- `time-delim = "T" / %x20`, where `"T"` is of either case: %x54 or %x74
abbrev pub is_time_delim : ℕ → Bool
is_time_delim c = c == 0x54 || c == 0x74 || c == space

-- `offset-date-time = full-date time-delim full-time`, `full-time = partial-time time-offset`
-- `local-date-time = full-date time-delim partial-time`
abbrev pub is_date_time : List ℕ → Bool
is_date_time text =
    is_full_date (take 10 text) && is_time_delim (slice_index text 10) && is_time (drop 11 text)

-- `date-time = offset-date-time / local-date-time / local-date / local-time`
unfoldable pub is_date_text : List ℕ → Bool
is_date_text text = is_full_date text || is_partial_time text || is_date_time text

abbrev pub IsDateText : List ℕ → Type 0
IsDateText text = is_date_text text ≡ true

-- The text is a date, a separator, a time and an offset, which may be empty.
pub record IsDateTime (text : List ℕ) : Type 0 where
  pub date : List ℕ
  pub delimiter : ℕ
  pub time : List ℕ
  pub offset : List ℕ
  pub whole : text ≡ date ++ delimiter ∷ (time ++ offset)
  pub has_date : is_full_date date ≡ true
  pub has_delimiter : is_time_delim delimiter ≡ true
  pub has_time : is_partial_time time ≡ true
  pub has_offset : (offset ≡ []) ⊎ (is_time_offset offset ≡ true)

abbrev pub IsDateOrTime : List ℕ → Type 0
IsDateOrTime text = (is_full_date text ≡ true) ⊎ (is_partial_time text ≡ true) ⊎ IsDateTime text
