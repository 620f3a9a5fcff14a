-- The faults of numbers: what is wrong with a literal, and the span that its fault has.
use Rattle.std.specs.Prelude.{◌≡◌, ℕ, ◌+◌, ◌<◌, ◌≤◌, ◌⊎◌, Bool, true, false, ◌==◌, if◌then◌else◌, List, slice_index}
use Rattle.std.specs.Prelude.{slice_range, Some, None, is_some}
use Rattle.toml_span_lex.specs.Bytes.{is_keylike, MaximalRun, plus, dash, period, digit_zero, underscore}
use Rattle.toml_span_read.specs.declared.fault.Fault.{Fault}
use Rattle.toml_span_read.specs.Numbers.{Digits}
use Rattle.toml_span_read.specs.Numerals.{after_sign, is_negative, radix_at, is_exponent, magnitude, signed, special}
use Rattle.toml_span_read.specs.Numerals.{invalid_number}

-- ---- the parts of a literal

-- The first run of bare-key bytes of the number at i is from a to b. It begins at i or after a plus at i.
pub record FirstRun (text : List ℕ) (i a b : ℕ) : Type 0 where
  pub run : MaximalRun is_keylike text a b
  pub some : a < b
  pub begins : (a ≡ i) ⊎ ((slice_index text i ≡ plus) × (a ≡ i + 1))

-- A dot follows the first run, and the run after the dot ends at `end`.
pub record AfterDot (text : List ℕ) (i a b end : ℕ) : Type 0 where
  pub first : FirstRun text i a b
  pub dot : slice_index text b ≡ period
  pub run : MaximalRun is_keylike text (b + 1) end

-- An `e` or `E` is at the offset `at`, in the first run or in the run after the dot. That run ends at `end`.
pub record Letter (text : List ℕ) (i at end : ℕ) : Type 0 where
  pub a : ℕ
  pub b : ℕ
  pub letter : is_exponent (slice_index text at) ≡ true
  pub before_end : at < end
  pub inside : (FirstRun text i a end × (a ≤ at)) ⊎ (AfterDot text i a b end × (b < at))

-- The digits of an exponent are expected from `from` to `end`, after a sign that may be at `start`: in the rest of the
-- run of its letter or, if the letter ends that run and a plus follows, in the run after the plus.
pub data ExponentPart (text : List ℕ) (i : ℕ) : ℕ → ℕ → ℕ → Type 0 where
  in_its_run : (at end : ℕ) → Letter text i at end → at + 1 < end
      → ExponentPart text i (at + 1) (after_sign text (at + 1)) end
  after_its_plus : (at b end : ℕ) → Letter text i at b → b ≡ at + 1 → slice_index text b ≡ plus
      → MaximalRun is_keylike text (b + 1) end → b + 1 < end → ExponentPart text i (b + 1) (b + 1) end

-- Digits of this radix are expected from `from` on, in the digit part from `start` to `end`. The digit part is the
-- first run without a prefix, the run after the dot, or the part of an exponent (`ExponentPart`).
pub data DigitPart (text : List ℕ) (i : ℕ) : ℕ → ℕ → ℕ → ℕ → Type 0 where
  in_first_run : (a b : ℕ) → FirstRun text i a b → radix_at text a ≡ None → DigitPart text i 10 a (after_sign text a) b
  after_prefix : (radix a b : ℕ) → FirstRun text i a b → radix_at text a ≡ Some radix
      → DigitPart text i radix (a + 2) (a + 2) b
  after_dot : (a b end : ℕ) → AfterDot text i a b end → b + 1 < end → DigitPart text i 10 (b + 1) (b + 1) end
  of_exponent : (start from end : ℕ) → ExponentPart text i start from end → DigitPart text i 10 start from end

-- ---- faults

-- The number at i has a fault with the span from the first to the second offset. The comment of each case says what is
-- wrong and, after the colon, what the span covers.
pub data NumberFault (text : List ℕ) (i : ℕ) : ℕ → ℕ → Type 0 where
  -- nothing after a plus: the empty span after the plus
  lone_plus : slice_index text i ≡ plus → is_keylike (slice_index text (i + 1)) ≡ false
      → NumberFault text i (i + 1) (i + 1)
  -- a plus before `-` or a prefix: the plus and the run
  plus_before : (b : ℕ) → slice_index text i ≡ plus → MaximalRun is_keylike text (i + 1) b
      → (slice_index text (i + 1) ≡ dash) ⊎ (is_some (radix_at text (i + 1)) ≡ true) → NumberFault text i i b
  -- no digit at `from`, or an underscore that no digit follows: the digit part
  no_digits : (radix start from end : ℕ) → DigitPart text i radix start from end
      → ((j : ℕ) → Digits radix text from j → ⊥) → NumberFault text i start end
  -- an underscore at `from`: the rest of the digit part
  underscore_first : (radix start from end : ℕ) → DigitPart text i radix start from end
      → slice_index text from ≡ underscore → NumberFault text i from end
  -- a leading 0, at z: the first run after the 0 or, if an underscore follows the 0, after the underscore
  leading_zero : (a b z m : ℕ) → FirstRun text i a b → z ≡ after_sign text a → slice_index text z ≡ digit_zero
      → Digits 10 text z m → z + 1 < m
      → NumberFault text i (if slice_index text (z + 1) == underscore then z + 2 else z + 1) b
  -- other characters after the digits: the first run
  other_character : (a b start from end m : ℕ) → FirstRun text i a b → DigitPart text i 10 start from end
      → Digits 10 text from m → m < end → is_exponent (slice_index text m) ≡ false → NumberFault text i a b
  -- the same after the digits of an exponent
  other_in_exponent : (a b start from end m : ℕ) → FirstRun text i a b → ExponentPart text i start from end
      → Digits 10 text from m → m < end → NumberFault text i a b
  -- nothing after the `e` or `E` of an exponent, nor after a plus that follows it: the first run
  lone_letter : (a b at end : ℕ) → FirstRun text i a b → Letter text i at end → end ≡ at + 1
      → ((slice_index text end == plus) ≡ false) ⊎ (is_keylike (slice_index text (end + 1)) ≡ false)
      → NumberFault text i a b
  -- other characters after the digits that follow a prefix: the first run without the prefix
  other_after_prefix : (radix a b m : ℕ) → FirstRun text i a b → radix_at text a ≡ Some radix
      → Digits radix text (a + 2) m → m < b → NumberFault text i (a + 2) b
  -- a dot and other characters after `inf` or `nan`: the first run
  fraction_of_word : (a b end : ℕ) → AfterDot text i a b end → b + 1 < end
      → is_some (special (is_negative text a) (slice_range text (after_sign text a) b)) ≡ true → NumberFault text i a b
  -- nothing after the dot: everything from i, including a plus, up to and including the dot
  nothing_after_dot : (a b : ℕ) → FirstRun text i a b → slice_index text b ≡ period
      → is_keylike (slice_index text (b + 1)) ≡ false → NumberFault text i i (b + 1)
  -- out of range: the digit part
  out_of_range : (radix start from end : ℕ) (negative : Bool) → DigitPart text i radix start from end
      → Digits radix text from end → signed negative (magnitude radix text from end) ≡ None
      → NumberFault text i start end

-- The number at i has this fault.
abbrev pub IsNumberFault : List ℕ → ℕ → Fault → Type 0
IsNumberFault text i fault =
    NumberFault text i fault.span.start fault.span.end × (fault ≡ invalid_number fault.span.start fault.span.end)
