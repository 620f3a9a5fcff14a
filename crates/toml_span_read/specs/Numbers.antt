-- How integers and floats are spelled (TOML 1.1, "Integer", "Float").
use Rattle.std.specs.Prelude.{◌≡◌, ℕ, ℤ, pos, neg_ℤ, ◌+◌, ◌^◌, ◌<◌, ◌≤◌, ◌⊎◌, Bool, true, false, ◌||◌, ◌==◌, List}
use Rattle.std.specs.Prelude.{length, slice_index, slice_range, Some, codes}
use Rattle.toml_span_lex.specs.Bytes.{underscore, MaximalRun, is_keylike, period, digit_zero}
use Rattle.toml_span_tree.specs.Node.{finite, infinite, not_a_number, Scalar, integer, float}
use Rattle.toml_span_read.specs.Numerals.{is_digit_in, is_figure, magnitude, after_sign, is_negative, radix_at}
use Rattle.toml_span_read.specs.Numerals.{is_exponent, cleaned}

-- ---- digits

-- The digits and underscores from i on extend to j. The first of them is a digit, and a digit follows each underscore.
--
-- `zero-prefixable-int = DIGIT *( DIGIT / underscore DIGIT )`, and the same for other radixes
pub record Digits (radix : ℕ) (text : List ℕ) (i j : ℕ) : Type 0 where
  pub begins : is_digit_in radix (slice_index text i) ≡ true
  pub run : MaximalRun (is_figure radix) text i j
  pub between : (k : ℕ) → i ≤ k → k < j → slice_index text k ≡ underscore
      → is_digit_in radix (slice_index text (k + 1)) ≡ true

-- ---- integers

-- n is the number m, negated if the first argument is true, and fits into an `i64`.
abbrev pub IsSigned : Bool → ℕ → ℤ → Type 0
IsSigned false m n = (n ≡ pos m) × (m < 2 ^ 63)
IsSigned true m n = (n ≡ neg_ℤ (pos m)) × (m ≤ 2 ^ 63)

-- The text from i to j is a decimal integer without a sign and without leading zeros.
--
-- `unsigned-dec-int = DIGIT / digit1-9 1*( DIGIT / underscore DIGIT )`
pub record UnsignedDecimal (text : List ℕ) (i j : ℕ) : Type 0 where
  pub digits : Digits 10 text i j
  pub leading : slice_index text i ≡ digit_zero → j ≡ i + 1

-- Whether a bare-key byte (a letter, digit, dash or underscore) or a dot is at j. Neither may follow `inf`, `nan`, or
-- an integer without a prefix.
abbrev pub goes_on : List ℕ → ℕ → Bool
goes_on text j = is_keylike (slice_index text j) || slice_index text j == period

-- The text from i to j is the decimal integer n, and neither a bare-key byte nor a dot follows.
--
-- `dec-int = [ minus / plus ] unsigned-dec-int`
pub record DecimalInteger (n : ℤ) (text : List ℕ) (i j : ℕ) : Type 0 where
  pub digits : UnsignedDecimal text (after_sign text i) j
  pub ends : goes_on text j ≡ false
  pub value : IsSigned (is_negative text i) (magnitude 10 text (after_sign text i) j) n

-- The text from i to j is the integer n, spelled as a prefix and digits of its radix. No bare-key byte follows.
--
-- `hex-int = hex-prefix HEXDIG *( HEXDIG / underscore HEXDIG )`,
-- `oct-int = oct-prefix digit0-7 *( digit0-7 / underscore digit0-7 )`,
-- `bin-int = bin-prefix digit0-1 *( digit0-1 / underscore digit0-1 )`
pub record RadixInteger (n : ℤ) (text : List ℕ) (i j : ℕ) : Type 0 where
  pub radix : ℕ
  pub prefix : radix_at text i ≡ Some radix
  pub digits : Digits radix text (i + 2) j
  pub ends : is_keylike (slice_index text j) ≡ false
  pub value : IsSigned false (magnitude radix text (i + 2) j) n

-- ---- floats

-- The text from i to j is the exponent of a float.
--
-- `exp = "e" float-exp-part`, `float-exp-part = [ minus / plus ] zero-prefixable-int`
pub record Exponent (text : List ℕ) (i j : ℕ) : Type 0 where
  pub letter : is_exponent (slice_index text i) ≡ true
  pub digits : Digits 10 text (after_sign text (i + 1)) j

-- The text from i to j is the fraction of a float.
--
-- `frac = decimal-point zero-prefixable-int`, `decimal-point = %x2E`
pub record Fraction (text : List ℕ) (i j : ℕ) : Type 0 where
  pub point : slice_index text i ≡ period
  pub digits : Digits 10 text (i + 1) j

-- The text from i to j is a float with digits, and no bare-key byte follows.
--
-- `float = float-int-part ( exp / frac [ exp ] )`, `float-int-part = dec-int`
pub record FloatLiteral (text : List ℕ) (i j : ℕ) : Type 0 where
  pub integer_end : ℕ
  pub integer_part : UnsignedDecimal text (after_sign text i) integer_end
  pub rest : Exponent text integer_end j ⊎ ((m : ℕ) × Fraction text integer_end m × ((j ≡ m) ⊎ Exponent text m j))
  pub ends : is_keylike (slice_index text j) ≡ false

-- The text from i to j is this word, `inf` or `nan`, after an optional sign. Neither a bare-key byte nor a dot follows.
--
-- `special-float = [ minus / plus ] ( inf / nan )`
pub record SpecialFloat (word : List ℕ) (text : List ℕ) (i j : ℕ) : Type 0 where
  pub letters : slice_range text (after_sign text i) j ≡ word
  pub some : after_sign text i < j
  pub within : j ≤ length text
  pub ends : goes_on text j ≡ false

-- ---- numbers

-- The text from i to j is a literal of this number, and the bytes from j on do not continue it.
--
-- `integer = dec-int / hex-int / oct-int / bin-int`, `float = float-int-part ( exp / frac [ exp ] )`,
-- `float =/ special-float`
abbrev pub IsNumber : Scalar → List ℕ → ℕ → ℕ → Type 0
IsNumber (integer n) text i j = DecimalInteger n text i j ⊎ RadixInteger n text i j
IsNumber (float (finite digits)) text i j = FloatLiteral text i j × (digits ≡ cleaned (slice_range text i j))
IsNumber (float (infinite negative)) text i j = SpecialFloat (codes "inf") text i j × (negative ≡ is_negative text i)
IsNumber (float (not_a_number negative)) text i j =
    SpecialFloat (codes "nan") text i j × (negative ≡ is_negative text i)
IsNumber _ text i j = ⊥
