-- The bytes of numbers.
use Rattle.toml_span_lex.proofs.Common.{◌≡◌, ℕ, ◌+◌, ◌<◌, ◌≤◌, ◌⊎◌, true, List, get_or, arith, inl, inr, refl, Some, codes, cases_lt, nat_tests, common_steps}
use Rattle.toml_span_lex.specs.Bytes.{is_keylike}
use Rattle.toml_span_tree.specs.Node.{Scalar, text as text_scalar, integer, float, boolean, datetime, finite, infinite, not_a_number}
use Rattle.toml_span_read.specs.Dates.{is_date_byte}
use Rattle.toml_span_read.specs.Numbers.{Digits, Exponent, Fraction, IsNumber}
use Rattle.toml_span_read.specs.Numerals.{after_sign, is_exponent, radix_at}
use Rattle.toml_span_read.proofs.NumberLemmas.{figure_keylike, sign_on}
use Rattle.toml_span_read.proofs.NumberReads.{zero_first, word_keylike}

-- all bytes from i to j are those of dates
abbrev pub Dated : List ℕ → ℕ → ℕ → Type 0
Dated text i j = (k : ℕ) → i ≤ k → k < j → is_date_byte (get_or text k 0) ≡ true

pub keylike_dated : (c : ℕ) → is_keylike c ≡ true → is_date_byte c ≡ true
keylike_dated c h = rw h refl

join : (text : List ℕ) (i j k : ℕ) → Dated text i j → Dated text j k → Dated text i k
join text i j k a b m x y = elim (cases_lt m j) [ inl low ↦ a m x low | inr high ↦ b m high y ]

one : (text : List ℕ) (i : ℕ) → is_date_byte (get_or text i 0) ≡ true → Dated text i (i + 1)
one text i h k a b = let e : k ≡ i = omega (arith, a, b) in rw e h

digits_dated : (radix : ℕ) (text : List ℕ) (i j : ℕ) → Digits radix text i j → Dated text i j
digits_dated radix text i j d k a b = keylike_dated (get_or text k 0) (figure_keylike radix (get_or text k 0) (d.run.passes k a b))

sign_dated : (text : List ℕ) (i : ℕ) → Dated text i (after_sign text i)
sign_dated text i k a b =
    let e : k ≡ i = omega (arith, a, b, (sign_on text i).1) in
    rw e (sign_byte (get_or text i 0) (grind (arith, nat_tests, common_steps)))
  where
    sign_byte : (c : ℕ) → (c ≡ 43) ⊎ (c ≡ 45) → is_date_byte c ≡ true
    sign_byte c (inl h) = rw h refl
    sign_byte c (inr h) = rw h refl

pub exponent_byte : (c : ℕ) → is_exponent c ≡ true → is_date_byte c ≡ true
exponent_byte c h = grind (arith, nat_tests)

exponent_dated : (text : List ℕ) (i j : ℕ) → Exponent text i j → Dated text i j
exponent_dated text i j x =
    join text i (i + 1) j (one text i (exponent_byte (get_or text i 0) x.letter))
    (join text (i + 1) (after_sign text (i + 1)) j (sign_dated text (i + 1)) (digits_dated 10 text (after_sign text (i + 1)) j x.digits))

fraction_dated : (text : List ℕ) (i j : ℕ) → Fraction text i j → Dated text i j
fraction_dated text i j f = join text i (i + 1) j (one text i (rw (f.point) refl)) (digits_dated 10 text (i + 1) j f.digits)

rest_dated : (text : List ℕ) (i j : ℕ) → Exponent text i j ⊎ ((m : ℕ) × Fraction text i m × ((j ≡ m) ⊎ Exponent text m j)) → Dated text i j
rest_dated text i j (inl x) = exponent_dated text i j x
rest_dated text i j (inr (m, f, inl e)) = rw e (fraction_dated text i m f)
rest_dated text i j (inr (m, f, inr x)) = join text i m j (fraction_dated text i m f) (exponent_dated text m j x)

special_dated : (text word : List ℕ) (i j : ℕ) → ((k : ℕ) → after_sign text i ≤ k → k < j → is_keylike (get_or text k 0) ≡ true) → Dated text i j
special_dated text word i j h = join text i (after_sign text i) j (sign_dated text i) (λ k a b. keylike_dated (get_or text k 0) (h k a b))

pub prefix_dated : (text : List ℕ) (i radix : ℕ) → radix_at text i ≡ Some radix → Dated text i (i + 2)
prefix_dated text i radix h = join text i (i + 1) (i + 2) (one text i (rw (zero_first text i radix h) refl)) (λ k a b. let e : k ≡ i + 1 = omega (arith, a, b) in rw e (letter (get_or text (i + 1) 0) (grind (arith, nat_tests, common_steps))))
  where
    letter : (c : ℕ) → (c ≡ 120) ⊎ (c ≡ 111) ⊎ (c ≡ 98) → is_date_byte c ≡ true
    letter c h = grind (arith, nat_tests, common_steps)

pub number_dated : (s : Scalar) (text : List ℕ) (i j : ℕ) → IsNumber s text i j → Dated text i j
number_dated (integer n) text i j (inl d) = join text i (after_sign text i) j (sign_dated text i) (digits_dated 10 text (after_sign text i) j d.digits.digits)
number_dated (integer n) text i j (inr x) = join text i (i + 2) j (prefix_dated text i x.radix x.prefix) (digits_dated x.radix text (i + 2) j x.digits)
number_dated (float (finite digits)) text i j (f, e) =
    join text i (after_sign text i) j (sign_dated text i)
    (join text (after_sign text i) f.integer_end j (digits_dated 10 text (after_sign text i) f.integer_end f.integer_part.digits) (rest_dated text f.integer_end j f.rest))
number_dated (float (infinite b)) text i j (f, e) = special_dated text (codes "inf") i j (word_keylike text (codes "inf") (after_sign text i) j f.letters refl f.within)
number_dated (float (not_a_number b)) text i j (f, e) = special_dated text (codes "nan") i j (word_keylike text (codes "nan") (after_sign text i) j f.letters refl f.within)
number_dated (text_scalar v) text i j h = absurd h
number_dated (boolean b) text i j h = absurd h
number_dated (datetime d) text i j h = absurd h
