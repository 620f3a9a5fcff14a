-- How a number is read. `number`, the last definition, returns the number at an offset and its end, or a fault; the
-- others do a part of this. `Numbers` says how numbers are spelled. The standard leaves open which fault an invalid
-- number has, and where; these definitions decide that.
--
-- Parameters, unless a comment says otherwise: A number begins at i. Its first run of letters, digits, dashes and
-- underscores is from a to b, where a is i or the offset after a plus sign. Digits are read from `from` on in a piece,
-- which is from `start` to `end`. A piece is a run, or the rest of a run after a prefix or after the letter of an
-- exponent.
use Rattle.std.specs.Char.{is_ascii_hexdigit, digit_value}
use Rattle.std.specs.List.{prefix_len, list_all, range_with_len}
use Rattle.std.specs.Option.{ok_or, option_map_or}
use Rattle.std.specs.Prelude.{ℕ, ℤ, pos, neg_ℤ, ◌+◌, ◌-◌, ◌^◌, Bool, true, false, not, ◌&&◌, ◌||◌, ◌==◌, nat_lt, nat_le}
use Rattle.std.specs.Prelude.{if◌then◌else◌, List, map, filter, drop, slice_index, slice_range}
use Rattle.std.specs.Prelude.{codes, Option, Some, None, is_some, Result, Ok, Err}
use Rattle.std.specs.Str.{bytes_eq}
use Rattle.std.specs.Str.Parse.{digits_value}
use Rattle.toml_span_lex.specs.Bytes.{is_keylike, plus, dash, period, digit_zero, underscore}
use Rattle.toml_span_tree.specs.Node as scalars
use Rattle.toml_span_tree.specs.Node.{Scalar, float, finite, infinite, not_a_number}
use Rattle.toml_span_read.specs.declared.fault.Fault.{Fault}
use Rattle.toml_span_read.specs.declared.fault.FaultKind.TheVariants as kinds
use Rattle.toml_span_read.specs.declared.numbers.Numeral.{Numeral}
use Rattle.toml_span_read.specs.declared.numbers.Numeral.TheVariants as numerals

infixl 10 ◌>>=◌
abbrev pub ◌>>=◌ : {A B : Type 0} → Result A Fault → (A → Result B Fault) → Result B Fault
Ok a >>= f = f a
Err e >>= f = Err e

abbrev pub invalid_number : ℕ → ℕ → Fault
invalid_number start end = record { kind = kinds.InvalidNumber; span = record { start = start; end = end } }

-- ---- digits

-- whether the byte c is a digit of this radix: `DIGIT` for 10, `HEXDIG` for 16, `digit0-7` for 8, `digit0-1` for 2
abbrev pub is_digit_in : ℕ → ℕ → Bool
is_digit_in radix c = is_ascii_hexdigit c && nat_lt (digit_value c) radix

-- whether the byte c is a digit of this radix or an underscore
abbrev pub is_figure : ℕ → ℕ → Bool
is_figure radix c = is_digit_in radix c || c == underscore

-- the number that the digits from i to j spell, with or without underscores
abbrev pub magnitude : ℕ → List ℕ → ℕ → ℕ → ℕ
magnitude radix text i j = digits_value radix (filter (is_digit_in radix) (slice_range text i j))

-- the end of the run of letters, digits, dashes and underscores from i on
unfoldable pub run_end : List ℕ → ℕ → ℕ
run_end text i = i + prefix_len is_keylike (drop i text)

-- the end of the digits and underscores from i on
unfoldable pub figures_end : ℕ → List ℕ → ℕ → ℕ
figures_end radix text i = i + prefix_len (is_figure radix) (drop i text)

-- Whether the digits and underscores from i to j begin with a digit, and a digit follows each underscore.
unfoldable pub are_digits : ℕ → List ℕ → ℕ → ℕ → Bool
are_digits radix text i j =
    is_digit_in radix (slice_index text i)
    && list_all (λ k. not (slice_index text k == underscore) || is_digit_in radix (slice_index text (k + 1)))
    (range_with_len i (j - i))

-- The end of the digits from `from` on: `zero-prefixable-int = DIGIT *( DIGIT / underscore DIGIT )`, or the same for
-- another radix. The fault of invalid digits spans the piece or, if an underscore is first, the piece from `from` on.
unfoldable pub digits_end : ℕ → List ℕ → ℕ → ℕ → ℕ → Result ℕ Fault
digits_end radix text start from end =
    if slice_index text from == underscore then Err (invalid_number from end)
    else if are_digits radix text from (figures_end radix text from) then Ok (figures_end radix text from)
    else Err (invalid_number start end)

-- ---- integers

-- `[ minus / plus ]`: the offset after the sign at i, or i if no sign is there
abbrev pub after_sign : List ℕ → ℕ → ℕ
after_sign text i = if slice_index text i == plus || slice_index text i == dash then i + 1 else i

abbrev pub is_negative : List ℕ → ℕ → Bool
is_negative text i = slice_index text i == dash

-- the radix of a prefix at i, if one is there: `hex-prefix = %x30.78` (0x), `oct-prefix = %x30.6F` (0o),
-- `bin-prefix = %x30.62` (0b)
abbrev pub radix_at : List ℕ → ℕ → Option ℕ
radix_at text i =
    if not (slice_index text i == digit_zero) then None
    else (if slice_index text (i + 1) == 0x78 then Some 16
    else (if slice_index text (i + 1) == 0x6F then Some 8
    else (if slice_index text (i + 1) == 0x62 then Some 2 else None)))

-- the end of `unsigned-dec-int = DIGIT / digit1-9 1*( DIGIT / underscore DIGIT )`, where the fault of a leading 0
-- begins at the digit after this 0
unfoldable pub integer_part : List ℕ → ℕ → ℕ → ℕ → Result ℕ Fault
integer_part text start from end =
    digits_end 10 text start from end >>= (λ m.
    if slice_index text from == digit_zero && nat_lt (from + 1) m
    then Err (invalid_number (if slice_index text (from + 1) == underscore then from + 2 else from + 1) end)
    else Ok m)

-- the number m, negated if the first argument is true, or None if the result does not fit into an `i64`
unfoldable pub signed : Bool → ℕ → Option ℤ
signed false m = if nat_lt m (2 ^ 63) then Some (pos m) else None
signed true m = if nat_le m (2 ^ 63) then Some (neg_ℤ (pos m)) else None

-- the integer that the digits from `from` to `end` spell, negated if `negative`, or a fault if it does not fit into an
-- `i64`
unfoldable pub integer : ℕ → List ℕ → Bool → ℕ → ℕ → ℕ → Result ℤ Fault
integer radix text negative start from end =
    ok_or (signed negative (magnitude radix text from end)) (invalid_number start end)

-- the integer of a `hex-int`, `oct-int` or `bin-int` whose digits, after the prefix, are from `start` to `end`, or a
-- fault
unfoldable pub radix_integer : ℕ → List ℕ → ℕ → ℕ → Result ℤ Fault
radix_integer radix text start end =
    digits_end radix text start start end >>= (λ m.
    if nat_lt m end then Err (invalid_number start end) else integer radix text false start start end)

-- ---- floats

-- whether this is the letter of an exponent: `"e"`, of either case (%x65 or %x45)
abbrev pub is_exponent : ℕ → Bool
is_exponent c = c == 0x65 || c == 0x45

-- the end of the digits of an exponent, which must extend to the end of their piece
unfoldable pub exponent_digits : List ℕ → ℕ → ℕ → ℕ → ℕ → ℕ → Result ℕ Fault
exponent_digits text a b start from end =
    digits_end 10 text start from end >>= (λ m. if nat_lt m end then Err (invalid_number a b) else Ok end)

-- the end of `exp = "e" float-exp-part`, whose letter is in a run that ends at `end`: the digits are in the same run
-- or, after a plus sign, in the next one
unfoldable pub exponent : List ℕ → ℕ → ℕ → ℕ → ℕ → Result ℕ Fault
exponent text a b letter end =
    if nat_lt (letter + 1) end then exponent_digits text a b (letter + 1) (after_sign text (letter + 1)) end
    else if not (slice_index text end == plus) then Err (invalid_number a b)
    else if run_end text (end + 1) == end + 1 then Err (invalid_number a b)
    else exponent_digits text a b (end + 1) (end + 1) (run_end text (end + 1))

-- the end of `frac [ exp ]`, whose decimal point is at b
unfoldable pub fraction : List ℕ → ℕ → ℕ → ℕ → Result ℕ Fault
fraction text i a b =
    if run_end text (b + 1) == b + 1 then Err (invalid_number i (b + 1))
    else digits_end 10 text (b + 1) (b + 1) (run_end text (b + 1)) >>= (λ m.
    if m == run_end text (b + 1) then Ok m
    else if is_exponent (slice_index text m) then exponent text a b m (run_end text (b + 1))
    else Err (invalid_number a b))

-- the number whose first run is from a to b, and its end: `dec-int`, or `float-int-part ( exp / frac [ exp ] )`
unfoldable pub decimal : List ℕ → ℕ → ℕ → ℕ → Result (Numeral × ℕ) Fault
decimal text i a b =
    integer_part text a (after_sign text a) b >>= (λ m.
    if nat_lt m b
    then (if is_exponent (slice_index text m) then exponent text a b m b >>= (λ j. Ok (numerals.Finite, j))
    else Err (invalid_number a b))
    else if slice_index text b == period then fraction text i a b >>= (λ j. Ok (numerals.Finite, j))
    else integer 10 text (is_negative text a) a (after_sign text a) b >>= (λ n. Ok (numerals.Integer n, b)))

-- `inf / nan`: the number that this word spells, negated if `negative`, or None for any other word
unfoldable pub special : Bool → List ℕ → Option Numeral
special negative word =
    if bytes_eq word (codes "inf") then Some (numerals.Infinite negative)
    else if bytes_eq word (codes "nan") then Some (numerals.NotANumber negative)
    else None

-- the number n, which is `inf` or `nan`, and its end b, or a fault: a dot must not follow
unfoldable pub special_end : List ℕ → ℕ → ℕ → ℕ → Numeral → Result (Numeral × ℕ) Fault
special_end text i a b n =
    if not (slice_index text b == period) then Ok (n, b)
    else if run_end text (b + 1) == b + 1 then Err (invalid_number i (b + 1))
    else Err (invalid_number a b)

-- ---- numbers

-- the number whose first run is from a to b, with its end: `inf`, `nan`, an integer with a prefix, or a decimal number
unfoldable pub unsigned : List ℕ → ℕ → ℕ → ℕ → Result (Numeral × ℕ) Fault
unsigned text i a b =
    option_map_or (λ radix. radix_integer radix text (a + 2) b >>= (λ n. Ok (numerals.Integer n, b)))
    (radix_at text a)
    (option_map_or (special_end text i a b)
    (special (is_negative text a) (slice_range text (after_sign text a) b))
    (decimal text i a b))

-- `integer = dec-int / hex-int / oct-int / bin-int`, `float = float-int-part ( exp / frac [ exp ] )`,
-- `float =/ special-float`: a plus sign must not be followed by another sign or by a prefix
unfoldable pub numeral : List ℕ → ℕ → Result (Numeral × ℕ) Fault
numeral text i =
    if not (slice_index text i == plus) then unsigned text i i (run_end text i)
    else if run_end text (i + 1) == i + 1 then Err (invalid_number (i + 1) (i + 1))
    else if slice_index text (i + 1) == dash || is_some (radix_at text (i + 1))
    then Err (invalid_number i (run_end text (i + 1)))
    else unsigned text i (i + 1) (run_end text (i + 1))

-- The text that is stored for a float: its literal without plus signs and underscores, and with `E` for `e`.
abbrev pub cleaned : List ℕ → List ℕ
cleaned literal =
    map (λ c. if c == 0x65 then 0x45 else c) (filter (λ c. not (c == plus || c == underscore)) literal)

-- this number as a `Scalar`, given its literal
abbrev pub scalar_of : Numeral → List ℕ → Scalar
scalar_of (numerals.Integer n) literal = scalars.integer n
scalar_of numerals.Finite literal = float (finite (cleaned literal))
scalar_of (numerals.Infinite negative) literal = float (infinite negative)
scalar_of (numerals.NotANumber negative) literal = float (not_a_number negative)

-- the number at i and its end, or a fault
unfoldable pub number : List ℕ → ℕ → Result (Scalar × ℕ) Fault
number text i = numeral text i >>= (λ p. Ok (scalar_of p.0 (slice_range text i p.1), p.1))
