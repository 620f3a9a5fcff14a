-- The spellings of integers and floats are read again.
use Rattle.toml_span_lex.proofs.Common.{◌≡◌, ℕ, zero, suc, ℤ, pos, negsuc, ◌+◌, ◌-◌, ◌^◌, ◌<◌, ◌≤◌, Bool, true, false, List, [], ◌∷◌, length, get_or, filter, arith, inl, sym, ◌∙◌, refl, ap, decimal, signed_decimal, is_ascii_digit, AllDigits, nat_tests, decimal_is_IsNumeral, digits_value-decimal, decimal_digit, first_decimal, IsNumeralModel, tells_digits, digit_at, common_steps, digits_value, numerals_by_value}
use Rattle.std.specs.Int.{IsInRange}
use lib.Signed.{mag}
use Rattle.toml_span_tree.specs.Node.{integer}
use Rattle.toml_span_read.specs.Dates.{is_date_byte}
use Rattle.toml_span_read.specs.Data.{from_to}
use Rattle.toml_span_read.specs.Grammar.{SpellsScalar}
use Rattle.toml_span_read.specs.Numbers.{IsSigned}
use Rattle.toml_span_read.specs.Numerals.{is_digit_in, magnitude, after_sign, is_negative}
use Rattle.toml_span_read.proofs.NumberLemmas.{no_keylike_figure, stands_alone}
use Rattle.toml_span_read.proofs.ShortIntegers.{decimal_digit as digit_ten, short_spelled}
use Rattle.toml_span_read.proofs.NumbersMove.{off_bytes, Plain, plain_in}
use Rattle.toml_span_read.proofs.Parts.{Part, tail, here, byte_at, next, range, within, each}

-- ---- decimal digits

in_range : (c : ℕ) → IsInRange 48 57 c → is_ascii_digit c ≡ true
in_range c h = grind (arith, nat_tests)

sums : IsNumeralModel (AllDigits 10) (digits_value 10)
sums = numerals_by_value (AllDigits 10) tells_digits

all_kept : (p : ℕ → Bool) (xs : List ℕ) → ((k : ℕ) → k < length xs → p (get_or xs k 0) ≡ true) → filter p xs ≡ xs
all_kept p [] h = refl
all_kept p (x ∷ xs) h =
    let e : p x ≡ true = h 0 (omega arith) in
    rw e (ap (λ (l : List ℕ). x ∷ l) (all_kept p xs (λ k l. h (suc k) (omega arith))))

-- a number of 64 bits in decimal digits, in a text
record Decimal (text : List ℕ) (n i j : ℕ) : Type 0 where
  some : i < j
  digits : (k : ℕ) → i ≤ k → k < j → is_ascii_digit (get_or text k 0) ≡ true
  value : magnitude 10 text i j ≡ n
  leading : get_or text i 0 ≡ 48 → j ≡ i + 1

leads : (n : ℕ) → n < 2 ^ 64 → get_or (decimal n) 0 0 ≡ 48 → length (decimal n) ≡ 1
leads zero h e = ap length (decimal_digit 0 (omega arith))
leads (suc n) h e = absurd (omega (arith, first_decimal (suc n) (omega arith) h))

plain : (n : ℕ) → n < 2 ^ 64 → Plain (decimal n)
plain n h = let numeral = (decimal_is_IsNumeral n h).0 in record { some = numeral.0; digits = λ k l. digit_ten (get_or (decimal n) k 0) (in_range (get_or (decimal n) k 0) (digit_at (decimal n) k numeral.1 l)) }

decimal_in : {text rest : List ℕ} {i j : ℕ} (n : ℕ) → n < 2 ^ 64 → Part text (decimal n) rest i j → Decimal text n i j
decimal_in {text} {rest} {i} {j} n h p =
    let numeral = (decimal_is_IsNumeral n h).0 in
    let on = p.on in
    let digit : (k : ℕ) → k < length (decimal n) → is_ascii_digit (get_or (decimal n) k 0) ≡ true = λ k l. in_range (get_or (decimal n) k 0) (digit_at (decimal n) k numeral.1 l) in
    let kept : filter (is_digit_in 10) (decimal n) ≡ decimal n = all_kept (is_digit_in 10) (decimal n) (λ k l. digit_ten (get_or (decimal n) k 0) (digit k l)) in
    let some : 0 < length (decimal n) = numeral.0 in
    record {
      some = omega arith;
      digits = each p is_ascii_digit digit;
      value = ap (λ (l : List ℕ). digits_value 10 (filter (is_digit_in 10) l)) (range p) ∙ (ap (digits_value 10) kept ∙ digits_value-decimal sums n h);
      leading = λ e. (let z : i - i ≡ 0 = omega arith in
          let same : get_or text i 0 ≡ get_or (decimal n) 0 0 = rw z at (byte_at p i (omega arith) (omega arith)) in
          let one : length (decimal n) ≡ 1 = leads n h (sym same ∙ e) in omega arith);
    }

-- ---- integers

abbrev IntegerAt : List ℕ → ℤ → ℕ → ℕ → Type 0
IntegerAt text z i j = SpellsScalar (integer z) (from_to i j) text i j

pub integer_again : {text rest : List ℕ} {i j : ℕ} (z : ℤ) → mag z < 2 ^ 63 → is_date_byte (get_or rest 0 0) ≡ false → Part text (signed_decimal z) rest i j → IntegerAt text z i j
integer_again {text} {rest} {i} {j} (pos n) h off p =
    let d = decimal_in n (omega arith) p in
    let b = off_bytes (get_or text j 0) (rw (next p) off) in
    let s = short_spelled (pos n) text i j n d.some (within p) d.digits (sym d.value) d.leading b.0 b.2 b.1 (refl, h) in (s.0, inl s.1, refl)
integer_again {text} {rest} {i} {j} (negsuc n) h off p =
    let q = tail 45 (decimal (suc n)) p in
    let d = decimal_in (suc n) (omega arith) q in
    let b = off_bytes (get_or text j 0) (rw (next p) off) in
    let first = here 45 (decimal (suc n)) p in
    let sign : after_sign text i ≡ i + 1 = rw first refl in
    let minus : is_negative text i ≡ true = rw first refl in
    let value : IsSigned true (magnitude 10 text (i + 1) j) (negsuc n) = rw (d.value) (refl, omega arith) in (
      rw first refl,
      inl (record { digits = rw sign (record { digits = plain_in (decimal (suc n)) (plain (suc n) (omega arith)) (no_keylike_figure 10 (get_or rest 0 0) (off_bytes (get_or rest 0 0) off).0) q; leading = d.leading }); ends = stands_alone text j b.0 b.2; value = rw (sign, minus) value }),
      refl,
    )
