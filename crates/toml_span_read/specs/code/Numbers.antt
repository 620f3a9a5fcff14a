-- What the functions for numbers return.
use Rattle.std.specs.Char.{digit_value}
use Rattle.std.specs.Prelude.{◌≡◌, ℕ, ◌^◌, ◌<◌, ◌≤◌, true, false, List, length, slice_index, slice_range, Result, Ok}
use Rattle.std.specs.Prelude.{Err, Option, Some, None}
use Rattle.toml_span_lex.specs.Bytes.{is_keylike}
use Rattle.toml_span_read.specs.Numbers.{IsNumber}
use Rattle.toml_span_read.specs.Numerals.{is_digit_in, scalar_of}
use Rattle.toml_span_read.specs.declared.fault.Fault.{Fault}
use Rattle.toml_span_read.specs.declared.numbers.Numeral.{Numeral}
use Rattle.toml_span_read.specs.Faults.{StartsInside}

abbrev pub DigitGives : ℕ → ℕ → Option ℕ → Type 0
DigitGives radix c None = is_digit_in radix c ≡ false
DigitGives radix c (Some value) = (is_digit_in radix c ≡ true) × (value ≡ digit_value c)

-- The result is the number n, or None if n is 2^64 or more.
abbrev pub WithinGives : ℕ → Option ℕ → Type 0
WithinGives n None = 2 ^ 64 ≤ n
WithinGives n (Some m) = m ≡ n

-- The text from i to j is a literal of this number.
abbrev pub IsNumeral : List ℕ → ℕ → ℕ → Numeral → Type 0
IsNumeral text i j n = IsNumber (scalar_of n (slice_range text i j)) text i j

-- ---- runs, and where faults are

-- From i to j there are only letters, digits, dashes and underscores, and no such byte is at j.
pub record IsRun (text : List ℕ) (i j : ℕ) : Type 0 where
  pub forward : i ≤ j
  pub within : j ≤ length text
  pub passes : (k : ℕ) → i ≤ k → k < j → is_keylike (slice_index text k) ≡ true
  pub last : is_keylike (slice_index text j) ≡ false

abbrev pub IsPlacedFault : {A : Type 0} → List ℕ → Result A Fault → Type 0
IsPlacedFault text (Ok found) = Unit {0}
IsPlacedFault text (Err fault) = StartsInside text fault.span
