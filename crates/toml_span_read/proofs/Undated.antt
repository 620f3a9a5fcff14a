-- Where there is a number that no colon follows, no date begins.
use Rattle.toml_span_lex.proofs.Common.{◌≡◌, ℕ, ◌+◌, ◌<◌, ◌≤◌, ◌⊎◌, true, false, List, ◌∷◌, get_or, arith, inl, inr, refl, sym, ◌∙◌, ◌==◌, ◌&&◌, is_ascii_digit, cases_lt, false≢true, or_cases, and_parts, false_from_ne_true, nat_tests, common_steps}
use Rattle.std.proofs.lemmas.Bool.{eqb-true}
use Rattle.toml_span_tree.specs.Node.{Scalar, text as text_scalar, integer, float, boolean, datetime, finite, infinite, not_a_number}
use Rattle.toml_span_read.specs.Dates.{begins_date}
use Rattle.toml_span_read.specs.Numbers.{Digits, Exponent, Fraction, SpecialFloat, IsNumber}
use Rattle.toml_span_read.specs.Numerals.{is_figure, after_sign}
use Rattle.toml_span_read.proofs.NumberLemmas.{clash, digits_stop, no_sign}

digit_other : (c k : ℕ) → is_ascii_digit c ≡ true → is_ascii_digit k ≡ false → (c == k) ≡ false
digit_other c k h n = false_from_ne_true (c == k) (λ e. clash is_ascii_digit c k h (eqb-true c k e) n)

after_none : (text : List ℕ) (i : ℕ) → is_ascii_digit (get_or text i 0) ≡ true → after_sign text i ≡ i
after_none text i h = no_sign text i (digit_other (get_or text i 0) 43 h refl) (digit_other (get_or text i 0) 45 h refl)

decimal_figure : (c : ℕ) → is_ascii_digit c ≡ true → is_figure 10 c ≡ true
decimal_figure c h = grind arith

-- digits extend over a digit, and end before a byte that is neither a digit nor an underscore
on : (text : List ℕ) (i e k : ℕ) → Digits 10 text i e → k ≤ e → is_ascii_digit (get_or text k 0) ≡ true → k < e
on text i e k d l h = elim (cases_lt k e) [
  | inl x ↦ x
  | inr x ↦ let z : k ≡ e = omega arith in absurd (false≢true (sym (digits_stop 10 text i e d) ∙ decimal_figure (get_or text e 0) (rw z at h)))
]

ends : (text : List ℕ) (i e k c : ℕ) → Digits 10 text i e → i ≤ k → k ≤ e → (get_or text k 0 == c) ≡ true → is_figure 10 c ≡ false → get_or text e 0 ≡ c
ends text i e k c d o l h off = elim (cases_lt k e) [
  | inl x ↦ absurd (clash (is_figure 10) (get_or text k 0) c (d.run.passes k o x) (eqb-true (get_or text k 0) c h) off)
  | inr x ↦ let z : e ≡ k = omega arith in rw z (eqb-true (get_or text k 0) c h)
]

-- digits end before a colon or a dash, if a date begins with them
front_ends : (text : List ℕ) (i e : ℕ) → begins_date text i ≡ true → Digits 10 text i e → (get_or text e 0 ≡ 58) ⊎ (get_or text e 0 ≡ 45)
front_ends text i e h d =
    let a = and_parts (is_ascii_digit (get_or text i 0) && is_ascii_digit (get_or text (i + 1) 0)) _ h in
    let b = and_parts (is_ascii_digit (get_or text i 0)) (is_ascii_digit (get_or text (i + 1) 0)) a.0 in
    let l0 = on text i e i d d.run.forward b.0 in
    let l1 = on text i e (i + 1) d (omega arith) b.1 in
    elim (or_cases (get_or text (i + 2) 0 == 58) _ a.1) [
      | inl x ↦ inl (ends text i e (i + 2) 58 d (omega arith) (omega arith) x refl)
      | inr x ↦
          let f = and_parts (is_ascii_digit (get_or text (i + 2) 0) && is_ascii_digit (get_or text (i + 3) 0)) (get_or text (i + 4) 0 == 45) x in
          let g = and_parts (is_ascii_digit (get_or text (i + 2) 0)) (is_ascii_digit (get_or text (i + 3) 0)) f.0 in
          let l2 = on text i e (i + 2) d (omega arith) g.0 in
          let l3 = on text i e (i + 3) d (omega arith) g.1 in
          inr (ends text i e (i + 4) 45 d (omega arith) (omega arith) f.1 refl)
    ]

-- the letter of an exponent, or a dot, is neither a colon nor a dash
front_rest : (text : List ℕ) (m j : ℕ) → (get_or text m 0 ≡ 58) ⊎ (get_or text m 0 ≡ 45) → Exponent text m j ⊎ ((p : ℕ) × Fraction text m p × ((j ≡ p) ⊎ Exponent text p j)) → ⊥
front_rest text m j h g = grind (arith, nat_tests, common_steps)

special_decimal : (text : List ℕ) (i j x : ℕ) (xs : List ℕ) → SpecialFloat (x ∷ xs) text i j → is_ascii_digit x ≡ false → is_ascii_digit (get_or text i 0) ≡ true → ⊥
special_decimal text i j x xs s n d = grind (arith, nat_tests, common_steps)

number_front : (s : Scalar) (text : List ℕ) (i j : ℕ) → begins_date text i ≡ true → is_ascii_digit (get_or text i 0) ≡ true → is_ascii_digit (get_or text (i + 1) 0) ≡ true → IsNumber s text i j → get_or text j 0 ≡ 58
number_front (integer n) text i j d a b (inl h) =
    elim (front_ends text i j d (rw (after_none text i a) at h.digits.digits)) [ inl e ↦ e | inr e ↦ absurd (false≢true (sym h.ends ∙ (rw e refl))) ]
number_front (integer n) text i j d a b (inr h) = grind (arith, nat_tests, common_steps, h.prefix)
number_front (float (finite digits)) text i j d a b (h, c) =
    absurd (front_rest text h.integer_end j (front_ends text i h.integer_end d (rw (after_none text i a) at h.integer_part.digits)) h.rest)
number_front (float (infinite negative)) text i j d a b (h, c) = absurd (special_decimal text i j 105 _ h refl a)
number_front (float (not_a_number negative)) text i j d a b (h, c) = absurd (special_decimal text i j 110 _ h refl a)
number_front (text_scalar x) text i j d a b h = absurd h
number_front (boolean x) text i j d a b h = absurd h
number_front (datetime x) text i j d a b h = absurd h

pub no_date : (s : Scalar) (text : List ℕ) (i j : ℕ) → IsNumber s text i j → (get_or text j 0 == 58) ≡ false → begins_date text i ≡ false
no_date s text i j h n = grind (arith, nat_tests, common_steps, and_parts, false_from_ne_true, false≢true, number_front)
