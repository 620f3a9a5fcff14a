-- Where dates and times begin and end (TOML 1.1, "Offset Date-Time" to "Local Time").
use Rattle.std.specs.Prelude.{◌≡◌, ℕ, ◌+◌, ◌⊎◌, Bool, true, false, ◌&&◌, ◌||◌, ◌==◌, List, slice_index}
use Rattle.std.specs.Char.{is_ascii_digit}
use Rattle.toml_span_lex.specs.Bytes.{is_keylike, MaximalRun, colon, dash, period, plus, space}

-- Whether a date or a time begins at i: four digits and a dash begin a `full-date`, two digits and a colon a
-- `partial-time` (`date-fullyear = 4DIGIT`, `time-hour = 2DIGIT`).
abbrev pub begins_date : List ℕ → ℕ → Bool
begins_date text i =
    (is_ascii_digit (slice_index text i) && is_ascii_digit (slice_index text (i + 1)))
    && (slice_index text (i + 2) == colon
    || ((is_ascii_digit (slice_index text (i + 2)) && is_ascii_digit (slice_index text (i + 3)))
    && slice_index text (i + 4) == dash))

-- Whether this byte is read as part of a date or time: a letter, a digit, a dash, an underscore, a colon, a dot or a
-- plus sign. So such a byte can't follow a date or time directly.
abbrev pub is_date_byte : ℕ → Bool
is_date_byte c = ((is_keylike c || c == colon) || c == period) || c == plus

-- `time-delim = "T" / %x20`: whether there is a space at i, followed by a digit
abbrev pub continues_date : List ℕ → ℕ → Bool
continues_date text i = slice_index text i == space && is_ascii_digit (slice_index text (i + 1))

-- The text from i to j is read as a date or time: the longest run of bytes from i on that pass `is_date_byte`. If this
-- run has exactly ten bytes, and a space and a digit follow, the text also has the space and the longest such run after
-- it. `is_date_text` of toml_span_tree says which of these texts are valid.
abbrev pub IsCandidate : List ℕ → ℕ → ℕ → Type 0
IsCandidate text i j =
    (MaximalRun is_date_byte text i j × (((j == i + 10) && continues_date text j) ≡ false))
    ⊎ (MaximalRun is_date_byte text i (i + 10) × (continues_date text (i + 10) ≡ true)
    × MaximalRun is_date_byte text (i + 11) j)
