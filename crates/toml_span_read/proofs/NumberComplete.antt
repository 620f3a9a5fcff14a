-- Where a number is spelled, it is read.
use Rattle.toml_span_lex.proofs.Common.{common_steps, nat_tests, ◌≡◌, ℕ, ◌+◌, ◌<◌, ◌≤◌, ◌⊎◌, Bool, true, false, Some, None, Ok, List, get_or, arith, inl, inr, refl, sym, ◌∙◌, ℤ, ◌==◌, slice_range, codes, list_all, cases_lt, or_parts, le-ltb}
use Rattle.std.proofs.lemmas.Bool.{lt-ltb, ne_eqb}
use Rattle.toml_span_lex.specs.Bytes.{is_keylike}
use Rattle.toml_span_tree.specs.Node.{text as text_scalar, finite, infinite, not_a_number, Scalar, integer, float, boolean, datetime}
use Rattle.toml_span_read.specs.declared.numbers.Numeral.{Numeral}
use Rattle.toml_span_read.specs.declared.numbers.Numeral.TheVariants as numerals
use Rattle.toml_span_read.specs.Numbers.{Digits, IsSigned, UnsignedDecimal, DecimalInteger, RadixInteger, Exponent}
use Rattle.toml_span_read.specs.Numbers.{Fraction, FloatLiteral, SpecialFloat, IsNumber}
use Rattle.toml_span_read.specs.Numerals.{is_digit_in, magnitude, after_sign, is_negative, radix_at, is_exponent}
use Rattle.toml_span_read.specs.Numerals as spec
use Rattle.toml_span_read.specs.Numerals.{run_end, scalar_of, integer_part, exponent_digits, exponent, fraction, signed, decimal, special, special_end, unsigned, numeral, number, radix_integer}
use Rattle.toml_span_read.specs.code.Numbers.{IsRun}
use Rattle.toml_span_read.proofs.NumberLemmas.{is_false, bool_cases, byte_is, clash, digit_keylike, figure_keylike, digits_complete, digits_on, run_is, run_passes, passes_on, sign_on, no_sign, after_plus_sign}
use Rattle.toml_span_read.proofs.NumberReads.{First, digits_to, first_plain, first_after, zero_first, NoLetter, no_prefix, keylike_letter, prefix_some, word_keylike, word_first}

-- ---- runs

digits_keylike : (radix : ℕ) (text : List ℕ) (i j : ℕ) → Digits radix text i j → (l : ℕ) → i ≤ l → l < j → is_keylike (get_or text l 0) ≡ true
digits_keylike radix text i j d l a b = figure_keylike radix (get_or text l 0) (d.run.passes l a b)

digits_with_run : (radix : ℕ) (text : List ℕ) (i k j b : ℕ) → IsRun text i b → i ≤ k → k ≤ b → Digits radix text k j → is_keylike (get_or text j 0) ≡ false → j ≡ b
digits_with_run radix text i k j b r a g d n = grind (arith, nat_tests, figure_keylike)

run_of : (radix : ℕ) (text : List ℕ) (i j : ℕ) → Digits radix text i j → is_keylike (get_or text j 0) ≡ false → run_end text i ≡ j
run_of radix text i j d n = run_is text i j (record { forward = d.run.forward; within = d.run.within; passes = digits_keylike radix text i j d; stops = λ l. n })

-- the letter of an exponent is a byte of the run
before_end : (text : List ℕ) (m b : ℕ) → m ≤ b → is_keylike (get_or text b 0) ≡ false → is_exponent (get_or text m 0) ≡ true → m < b
before_end text m b l n x = grind (arith, nat_tests)

-- ---- integer parts

part_complete : (text : List ℕ) (start from end m : ℕ) → UnsignedDecimal text from m → integer_part text start from end ≡ Ok m
unfolding integer_part
part_complete text start from end m u = rw (digits_complete 10 text start from end m u.digits) (grind arith)

-- ---- exponents

exponent_digits_complete : (text : List ℕ) (a b start from end : ℕ) → Digits 10 text from end → exponent_digits text a b start from end ≡ Ok end
unfolding exponent_digits
exponent_digits_complete text a b start from end d = rw (digits_complete 10 text start from end end d, le-ltb end end (omega arith)) refl

exponent_complete : (text : List ℕ) (a b letter end j : ℕ) → letter < end → IsRun text letter end → Exponent text letter j → is_keylike (get_or text j 0) ≡ false → exponent text a b letter end ≡ Ok j
unfolding exponent
exponent_complete text a b letter end j l r x n = elim (cases_lt (letter + 1) end) [
  | inl k ↦ grind (arith, nat_tests, sign_on text (letter + 1), digits_with_run 10 text letter (after_sign text (letter + 1)) j end r, exponent_digits_complete text a b (letter + 1) (after_sign text (letter + 1)) end)
  | inr g ↦
      let e : letter + 1 ≡ end = omega arith in
      let d : Digits 10 text (after_sign text end) j = rw e at x.digits in
      elim (bool_cases (get_or text end 0 == 43)) [
        | inl p ↦
            let f : Digits 10 text (end + 1) j = rw (after_plus_sign text end (byte_is (get_or text end 0) 43 p)) at d in
            let q : run_end text (end + 1) ≡ j = run_of 10 text (end + 1) j f n in
            let o = digits_on 10 text (end + 1) j f in
            rw (le-ltb (letter + 1) end g, p, q, ne_eqb j (end + 1) (λ y. absurd (omega arith))) (exponent_digits_complete text a b (end + 1) (end + 1) j f)
        | inr p ↦ grind (arith, nat_tests, no_sign text end p, digit_keylike 10 (get_or text end 0))
      ]
]

-- ---- fractions

fraction_complete : (text : List ℕ) (i a b m j : ℕ) → Fraction text b m → (j ≡ m) ⊎ Exponent text m j → is_keylike (get_or text j 0) ≡ false → fraction text i a b ≡ Ok j
unfolding fraction
fraction_complete text i a b m j f o n =
    let e : ℕ = run_end text (b + 1) in
    let some = digits_on 10 text (b + 1) m f.digits in
    let r = run_passes text (b + 1) (omega (arith, f.digits.run.within)) in
    let to = digits_to 10 text (b + 1) m e f.digits r.forward r.last in
    rw (digits_complete 10 text (b + 1) (b + 1) e m f.digits) (elim o [
      | inl q ↦ let s = digits_with_run 10 text (b + 1) (b + 1) m e r (omega arith) r.forward f.digits (rw q at n) in grind (arith, nat_tests)
      | inr x ↦
          let y = before_end text m e to r.last x.letter in
          grind (arith, nat_tests, x.letter, exponent_complete text a b m e j y (passes_on text (b + 1) m e r f.digits.run.forward to) x n)
    ])

-- ---- integers

integer_complete : (radix : ℕ) (text : List ℕ) (negative : Bool) (start from end : ℕ) (n : ℤ) → IsSigned negative (magnitude radix text from end) n → spec.integer radix text negative start from end ≡ Ok n
unfolding spec.integer signed
integer_complete radix text negative start from end n s = grind (arith)

radix_complete : (radix : ℕ) (text : List ℕ) (start end : ℕ) (n : ℤ) → Digits radix text start end → IsSigned false (magnitude radix text start end) n → radix_integer radix text start end ≡ Ok n
unfolding radix_integer
radix_complete radix text start end n d s = rw (digits_complete radix text start start end end d, le-ltb end end (omega arith)) (integer_complete radix text false start start end n s)

-- ---- numbers without a prefix

decimal_integer : (text : List ℕ) (i a b j : ℕ) (n : ℤ) → First text i a b → DecimalInteger n text i j → decimal text i a b ≡ Ok (numerals.Integer n, j)
unfolding decimal
decimal_integer text i a b j n g d =
    let o = g.some in
    let t = sign_on text a in
    let p = or_parts (is_keylike (get_or text j 0)) (get_or text j 0 == 46) d.ends in
    let u : UnsignedDecimal text (after_sign text a) j = rw g.sign at d.digits in
    let e : j ≡ b = digits_with_run 10 text a (after_sign text a) j b g.run t.0 (omega arith) u.digits p.0 in
    rw (part_complete text a (after_sign text a) b j u) (grind (arith, nat_tests, g.sign, g.negative, d.value, integer_complete))

decimal_float : (text : List ℕ) (i a b j : ℕ) → First text i a b → FloatLiteral text i j → decimal text i a b ≡ Ok (numerals.Finite, j)
unfolding decimal
decimal_float text i a b j g f =
    let o = g.some in
    let r = g.run in
    let t = sign_on text a in
    let m : ℕ = f.integer_end in
    let u : UnsignedDecimal text (after_sign text a) m = rw g.sign at f.integer_part in
    let to : m ≤ b = digits_to 10 text (after_sign text a) m b u.digits (omega arith) r.last in
    let h = u.digits.run.forward in
    elim f.rest [
      | inl x ↦
          let y : m < b = before_end text m b to r.last x.letter in
          rw (part_complete text a (after_sign text a) b m u, lt-ltb m b y, x.letter, exponent_complete text a b m b j y (passes_on text a m b r (omega arith) to) x f.ends) refl
      | inr (p, y, z) ↦
          let e : m ≡ b = digits_with_run 10 text a (after_sign text a) m b r t.0 (omega arith) u.digits (rw y.point refl) in
          let k : (get_or text b 0 == 46) ≡ true = rw (← e, y.point) refl in
          rw (part_complete text a (after_sign text a) b b (rw e at u), le-ltb b b (omega arith), k, fraction_complete text i a b p j (rw e at y) z f.ends) refl
    ]

-- ---- inf and nan

special_none : (negative : Bool) (word : List ℕ) → is_digit_in 10 (get_or word 0 0) ≡ true → special negative word ≡ None
unfolding special
special_none negative word d = grind (arith, nat_tests, common_steps)

-- ---- where a number without a prefix begins

record Begun (text : List ℕ) (i a : ℕ) : Type 0 where
  first : First text i a (run_end text a)
  plain : radix_at text a ≡ None
  same : numeral text i ≡ unsigned text i a (run_end text a)

begun_here : (text : List ℕ) (i : ℕ) → (get_or text i 0 == 43) ≡ false → is_keylike (get_or text i 0) ≡ true → radix_at text i ≡ None → Begun text i i
unfolding numeral
begun_here text i p k n = record { first = first_plain text i k; plain = n; same = rw p refl }

begun_after : (text : List ℕ) (i : ℕ) → (get_or text i 0 == 43) ≡ true → is_keylike (get_or text (i + 1) 0) ≡ true → (get_or text (i + 1) 0 == 45) ≡ false → radix_at text (i + 1) ≡ None → Begun text i (i + 1)
unfolding numeral
begun_after text i p k q n = grind (arith, first_after, byte_is, ne_eqb)

begun : (text : List ℕ) (i : ℕ) → is_keylike (get_or text (after_sign text i) 0) ≡ true → (get_or text (after_sign text i) 0 == 45) ≡ false → radix_at text (after_sign text i) ≡ None → (a : ℕ) × Begun text i a
begun text i k q n = elim (bool_cases (get_or text i 0 == 43)) [
  | inl p ↦ let s = after_plus_sign text i (byte_is (get_or text i 0) 43 p) in (i + 1, begun_after text i p (rw s at k) (rw s at q) (rw s at n))
  | inr p ↦ (i, begun_here text i p (grind (arith, nat_tests, no_sign text i p)) (grind (arith, nat_tests, no_sign text i p)))
]

-- what begins with a digit is neither `inf` nor `nan`
decimal_read : (text : List ℕ) (i a : ℕ) → Begun text i a → is_digit_in 10 (get_or text (after_sign text i) 0) ≡ true → numeral text i ≡ decimal text i a (run_end text a)
unfolding unsigned
decimal_read text i a g d =
    let b : ℕ = run_end text a in
    let k : ℕ = after_sign text a in
    let t = sign_on text a in
    let x : is_digit_in 10 (get_or text k 0) ≡ true = rw g.first.sign at d in
    let l : k < b = grind (arith, g.first.some, g.first.run.last, digit_keylike) in
    let f : get_or text k 0 ≡ get_or (slice_range text k b) 0 0 = word_first text (slice_range text k b) k b l refl in
    g.same ∙ (rw (g.plain, special_none (is_negative text a) (slice_range text k b) (rw f at x)) refl)

letters_at : (text word : List ℕ) (i a j : ℕ) (n : Numeral) → Begun text i a → list_all is_keylike word ≡ true → special (is_negative text i) word ≡ Some n → SpecialFloat word text i j
    → unsigned text i a (run_end text a) ≡ Ok (n, j)
unfolding unsigned special_end
letters_at text word i a j n g h e f =
    let o = g.first.some in
    let p = or_parts (is_keylike (get_or text j 0)) (get_or text j 0 == 46) f.ends in
    let all = word_keylike text word (after_sign text i) j f.letters h f.within in
    let t = sign_on text a in
    let same : j ≡ run_end text a = grind (arith, nat_tests, all, g.first.sign, g.first.run.passes, g.first.run.last, f.some) in
    rw (g.plain, ← same) (grind (arith, nat_tests, g.first.sign, g.first.negative, f.letters))

letters_read : (text word : List ℕ) (i j : ℕ) (n : Numeral) → list_all is_keylike word ≡ true → (get_or word 0 0 == 45) ≡ false → (get_or word 0 0 ≡ 48 → ⊥) → special (is_negative text i) word ≡ Some n
    → SpecialFloat word text i j → numeral text i ≡ Ok (n, j)
letters_read text word i j n h q z e f =
    let first : get_or text (after_sign text i) 0 ≡ get_or word 0 0 = word_first text word (after_sign text i) j f.some f.letters in
    let k = word_keylike text word (after_sign text i) j f.letters h f.within (after_sign text i) (omega arith) f.some in
    let g = begun text i k (rw first q) (no_prefix text (after_sign text i) (λ x. absurd (z (sym first ∙ x)))) in
    g.1.same ∙ letters_at text word i g.0 j n g.1 h e f

-- ---- numbers with a prefix

radix_read : (text : List ℕ) (i j : ℕ) (n : ℤ) → RadixInteger n text i j → numeral text i ≡ Ok (numerals.Integer n, j)
unfolding numeral unsigned
radix_read text i j n x =
    let z : get_or text i 0 ≡ 48 = zero_first text i x.radix x.prefix in
    let p : (get_or text i 0 == 43) ≡ false = rw z refl in
    let b : ℕ = run_end text i in
    let g = first_plain text i (rw z refl) in
    let l = prefix_some text i b x.radix g.run g.some x.prefix in
    let e : j ≡ b = digits_with_run x.radix text i (i + 2) j b g.run (omega arith) l x.digits x.ends in
    rw (p, x.prefix, radix_complete x.radix text (i + 2) b n (rw e at x.digits) (rw e at x.value), e) refl

-- ---- numbers

rest_letter : (text : List ℕ) (m j : ℕ) → Exponent text m j ⊎ ((q : ℕ) × Fraction text m q × ((j ≡ q) ⊎ Exponent text q j)) → NoLetter (get_or text m 0)
rest_letter text m j h = grind (arith, nat_tests, common_steps)

-- a number with an integer part, which ends at m
decimal_begun : (text : List ℕ) (i m : ℕ) → UnsignedDecimal text (after_sign text i) m → NoLetter (get_or text m 0) → (a : ℕ) × Begun text i a
decimal_begun text i m u n = grind (arith, begun, digit_keylike, is_false, clash, byte_is, no_prefix)

numeral_complete : (s : Scalar) (text : List ℕ) (i j : ℕ) → IsNumber s text i j → (n : Numeral) × (numeral text i ≡ Ok (n, j)) × (s ≡ scalar_of n (slice_range text i j))
unfolding special
numeral_complete (integer n) text i j (inl d) =
    let p = or_parts (is_keylike (get_or text j 0)) (get_or text j 0 == 46) d.ends in
    let (a, g) = decimal_begun text i j d.digits (keylike_letter (get_or text j 0) p.0) in
    (numerals.Integer n, decimal_read text i a g d.digits.digits.begins ∙ decimal_integer text i a (run_end text a) j n g.first d, refl)
numeral_complete (integer n) text i j (inr x) = (numerals.Integer n, radix_read text i j n x, refl)
numeral_complete (float (finite digits)) text i j (f, c) =
    let (a, g) = decimal_begun text i f.integer_end f.integer_part (rest_letter text f.integer_end j f.rest) in
    (numerals.Finite, decimal_read text i a g f.integer_part.digits.begins ∙ decimal_float text i a (run_end text a) j g.first f, rw c refl)
numeral_complete (float (infinite b)) text i j (f, c) =
    (numerals.Infinite (is_negative text i), letters_read text (codes "inf") i j (numerals.Infinite (is_negative text i)) refl refl (λ e. absurd (omega arith)) refl f, rw c refl)
numeral_complete (float (not_a_number b)) text i j (f, c) =
    (numerals.NotANumber (is_negative text i), letters_read text (codes "nan") i j (numerals.NotANumber (is_negative text i)) refl refl (λ e. absurd (omega arith)) refl f, rw c refl)
numeral_complete (text_scalar x) text i j h = absurd h
numeral_complete (boolean x) text i j h = absurd h
numeral_complete (datetime x) text i j h = absurd h

scalar_read : (s : Scalar) (text : List ℕ) (i j : ℕ) (n : Numeral) → numeral text i ≡ Ok (n, j) → s ≡ scalar_of n (slice_range text i j) → number text i ≡ Ok (s, j)
unfolding number
scalar_read s text i j n e same = rw (e, same) refl

-- where a number is spelled, it is read
pub number_complete : (s : Scalar) (text : List ℕ) (i j : ℕ) → IsNumber s text i j → number text i ≡ Ok (s, j)
number_complete s text i j h = let (n, e, same) = numeral_complete s text i j h in scalar_read s text i j n e same
