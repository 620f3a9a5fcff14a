-- Exact decimal numbers, and the numbers that decimal texts spell.
use Rattle.std.specs.Prelude.{ℕ, ◌+◌, ◌-◌, ◌*◌, ◌^◌, ◌%◌, min, nat_lt, nat_le, ◌==◌, List, [], ◌∷◌, ◌++◌, length}
use Rattle.std.specs.Prelude.{slice_range, drop, Bool, true, false, ◌&&◌, ◌||◌, if◌then◌else◌, Option, Some, None}
use Rattle.std.specs.Cmp.Lexicographic.{slice_cmp}
use Rattle.std.specs.Fmt.{signed_decimal}
use Rattle.std.specs.Ordering.{nat_cmp, ordering_then}
use Rattle.std.specs.Str.Parse.{digits_value}
use Rattle.std.specs.declared.cmp.Ordering.{Ordering}
use Rattle.std.specs.declared.cmp.Ordering.TheVariants.{Less, Equal, Greater}
use Rattle.fast_float.specs.Text.{Parts, scan, point_at, whole_of}
use Rattle.toml_span_tree.specs.Node.{FloatValue, finite, infinite, not_a_number, Inner, scalar, integer, float}
use Rattle.toml_span_schema.specs.declared.numbers.Decimal.{Decimal}
use Rattle.toml_span_schema.specs.declared.numbers.Number.{Number}
use Rattle.toml_span_schema.specs.declared.numbers.Number.TheVariants.{Finite, Infinite, NotANumber}

-- The number 0.d1d2d3.. * 10^(point - 2^65), or its negative. The first and the last digit are not 0, so that each
-- number has one form; zero has no digits.
pub record Plain : Type 0 where
  pub negative : Bool
  pub point : ℕ
  pub digits : List ℕ

-- a number of TOML; the `Bool` says whether an infinite number is negative
pub data Quantity : Type 0 where
  exact : Plain → Quantity
  endless : Bool → Quantity
  no_number : Quantity

abbrev pub plain : Decimal → Plain
plain d = record { negative = d.negative; point = d.point; digits = d.digits.items }

abbrev pub quantity : Number → Quantity
quantity (Finite d) = exact (plain d)
quantity (Infinite negative) = endless negative
quantity NotANumber = no_number

-- 2^65 plus the exponent with these digits or, if `negative` is true, 2^65 minus the exponent; an exponent above 10^15
-- counts as 10^15
abbrev pub raised : List ℕ → Bool → ℕ
raised digits negative =
    if negative then 36893488147419103232 - min (digits_value 10 digits) 1000000000000000
    else 36893488147419103232 + min (digits_value 10 digits) 1000000000000000

-- the number of zeros at the beginning of some digits
abbrev pub leading_zeros : List ℕ → ℕ
leading_zeros [] = 0
leading_zeros (d ∷ ds) = if d == 48 then leading_zeros ds + 1 else 0

-- the number of digits without the zeros at the end
abbrev pub significant : List ℕ → ℕ
significant [] = 0
significant (d ∷ ds) = if nat_lt 0 (significant ds) then significant ds + 1 else (if d == 48 then 0 else 1)

abbrev pub nothing : Plain
nothing = record { negative = false; point = 0; digits = [] }

-- the number 0.d1d2d3.. * 10^(point - 2^65) or, if `negative` is true, its negative, in the form of `Plain`
abbrev pub normal : Bool → ℕ → List ℕ → Plain
normal negative point digits =
    if nat_le (significant digits) (leading_zeros digits) then nothing
    else record { negative = negative; point = point - leading_zeros digits; digits = slice_range digits (leading_zeros digits) (significant digits) }

-- the number that a decimal text without a sign spells; the `Bool` says whether to negate it
abbrev pub unsigned_of : Bool → List ℕ → Plain
unsigned_of negative text =
    normal negative (raised (scan text).exponent (scan text).exponent_negative + length (scan text).whole)
    ((scan text).whole ++ (scan text).fraction)

-- the number that a decimal text spells
abbrev pub decimal_of : List ℕ → Plain
decimal_of [] = unsigned_of false []
decimal_of (c ∷ cs) = if c == 45 then unsigned_of true cs else unsigned_of false (c ∷ cs)

-- the count that a numeral spells; one above 2^64 - 1 becomes 2^64 - 1
abbrev pub count_of : Parts → ℕ
count_of p =
    if digits_value 10 (drop (point_at p) (p.whole ++ p.fraction)) == 0 then min (whole_of p) 18446744073709551615
    else 18446744073709551615

abbrev pub count_in : List ℕ → ℕ
count_in text = count_of (scan text)

abbrev pub is_zero : Plain → Bool
is_zero p = length p.digits == 0

-- whether a number is an integer
abbrev pub is_whole : Plain → Bool
is_whole p = is_zero p || nat_le (length p.digits + 36893488147419103232) p.point

-- 0 for a number below zero, 1 for zero, 2 for a number above zero
abbrev pub sign : Plain → ℕ
sign p = if is_zero p then 1 else (if p.negative then 0 else 2)

-- the order of two positive numbers: first by their points, then by their digits in lexicographic order
abbrev pub compare_sizes : Plain → Plain → Ordering
compare_sizes a b = ordering_then (nat_cmp a.point b.point) (slice_cmp nat_cmp a.digits b.digits)

-- the order of two numbers below zero, two zeros, or two numbers above zero
abbrev pub compare_alike : Plain → Plain → Ordering
compare_alike a b = if sign a == 2 then compare_sizes a b else (if sign a == 0 then compare_sizes b a else Equal)

abbrev pub compare : Plain → Plain → Ordering
compare a b = ordering_then (nat_cmp (sign a) (sign b)) (compare_alike a b)

-- The order of a number and a limit. NaN has none.
abbrev pub compare_quantity : Quantity → Plain → Option Ordering
compare_quantity (exact p) limit = Some (compare p limit)
compare_quantity (endless true) limit = Some Less
compare_quantity (endless false) limit = Some Greater
compare_quantity no_number limit = None

-- the number n with these digits appended
abbrev pub value_after : ℕ → List ℕ → ℕ
value_after n [] = n
value_after n (d ∷ ds) = value_after (n * 10 + (d - 48)) ds

-- the exponent of the last digit's power of ten, plus 2^66
abbrev pub exponent : Plain → ℕ
exponent p = p.point + 36893488147419103232 - length p.digits

-- Whether a number is a multiple of `size` times a power of ten, whose exponent plus 2^66 is `power`. The last digit of
-- the number is not 0. So the number is not a multiple if the power of ten of its last digit is lower.
abbrev pub is_multiple : Plain → ℕ → ℕ → Bool
is_multiple p size power =
    is_zero p || (nat_le power (exponent p) && (value_after 0 p.digits * 10 ^ (exponent p - power)) % size == 0)

abbrev pub is_multiple_quantity : Quantity → ℕ → ℕ → Bool
is_multiple_quantity (exact p) size power = is_multiple p size power
is_multiple_quantity _ size power = false

abbrev pub float_quantity : FloatValue → Quantity
float_quantity (finite text) = exact (decimal_of text)
float_quantity (infinite negative) = endless negative
float_quantity (not_a_number negative) = no_number

-- the number in a value, or `None` if the value is not a number
abbrev pub quantity_in : Inner → Option Quantity
quantity_in (scalar (integer z)) = Some (exact (decimal_of (signed_decimal z)))
quantity_in (scalar (float x)) = Some (float_quantity x)
quantity_in _ = None
