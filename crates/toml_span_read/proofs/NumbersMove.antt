-- A number in a part of a text is also in a copy of that part, unless the byte after the copy extends it.
use Rattle.toml_span_lex.proofs.Common.{◌≡◌, ℕ, ℤ, ◌+◌, ◌-◌, ◌<◌, ◌≤◌, Bool, true, false, List, length, get_or, filter, arith, inl, inr, sym, ◌∙◌, ap, codes, ◌==◌, ◌||◌, Some, cases_lt, false≢true, or_from, nat_tests, common_steps, digits_value}
use Rattle.toml_span_lex.specs.Bytes.{is_keylike}
use Rattle.toml_span_tree.specs.Node.{Scalar, text as text_scalar, integer, float, boolean, datetime, finite, infinite, not_a_number}
use Rattle.toml_span_read.specs.Dates.{is_date_byte}
use Rattle.toml_span_read.specs.Numbers.{Digits, UnsignedDecimal, DecimalInteger, RadixInteger, Exponent, Fraction}
use Rattle.toml_span_read.specs.Numbers.{FloatLiteral, SpecialFloat, IsNumber}
use Rattle.toml_span_read.specs.Numerals.{is_digit_in, is_figure, magnitude, after_sign, is_exponent}
use Rattle.toml_span_read.specs.Numerals.{is_negative, radix_at, cleaned}
use Rattle.toml_span_read.proofs.NumberLemmas.{digit_figure, digit_no_underscore, no_keylike_figure, digits_on, digits_stop, sign_on}
use Rattle.toml_span_read.proofs.Moves.{Moves, either, said, also, Copied, At, further, in_sequence, nothing, byte, stays, first, run, same_range}
use Rattle.toml_span_read.proofs.Parts.{Part, next, within, each}

-- ---- what a byte is not

pub off_bytes : (c : ℕ) → is_date_byte c ≡ false → (is_keylike c ≡ false) × ((c == 58) ≡ false) × ((c == 46) ≡ false) × ((c == 43) ≡ false)
off_bytes c h = grind (arith, nat_tests, common_steps)

-- digits do not end before a digit
before_end : (radix : ℕ) (a : List ℕ) (i j k : ℕ) → Digits radix a i j → k < j → is_digit_in radix (get_or a (k + 1) 0) ≡ true → k + 1 < j
before_end radix a i j k h l d = elim (cases_lt (k + 1) j) [
  | inl x ↦ x
  | inr x ↦ let e : k + 1 ≡ j = omega arith in absurd (false≢true (sym (digits_stop radix a i j h) ∙ digit_figure radix (get_or a j 0) (rw e at d)))
]

module _ {a b : List ℕ} {s t n c : ℕ} (w : Copied a b s t n c) (off : is_date_byte c ≡ false) where
  abbrev Alike : (List ℕ → ℕ → ℕ → Type 0) → Type 0
  Alike R = Moves (At s t n 0) (R a) (R b)

  goes_off : (is_keylike c || c == 46) ≡ false
  goes_off = or_from (is_keylike c) (c == 46) (off_bytes c off).0 (off_bytes c off).2

  digits : (radix : ℕ) → Alike (Digits radix)
  digits radix = record {
    on = λ i j h. h.run.forward;
    to = λ i j k l u v h. (
        let some = digits_on radix a i j h in
        record {
          begins = byte w (is_digit_in radix) true u (omega arith) h.begins;
          run = (run w (is_figure radix) (λ x. no_keylike_figure radix c (off_bytes c off).0)).to i j k l u v h.run;
          between = λ m x y z. (
              let p : At s t n 0 ((m + s) - t) m = record { after = omega arith; moved = omega arith; inside = omega arith } in
              let d = h.between ((m + s) - t) (omega arith) (omega arith) (w.same ((m + s) - t) m p.after p.moved (omega arith) ∙ z) in
              let more = before_end radix a i j ((m + s) - t) h (omega arith) d in
              byte w (is_digit_in radix) true (further 1 (omega arith) p) (omega arith) d);
        });
  }

  -- a sign
  sign_at : {i k : ℕ} → At s t n 0 i k → k < n → At s t n 0 (after_sign a i) (after_sign b k)
  sign_at {i} {k} u l = grind (arith, nat_tests, common_steps)

  negative_same : {i k : ℕ} → At s t n 0 i k → k < n → is_negative a i ≡ is_negative b k
  negative_same {i} {k} u l = ap (λ x. x == 45) (w.same i k u.after u.moved l)

  signed : {R S : ℕ → ℕ → Type 0} → Moves (At s t n 0) R S → ((i j : ℕ) → R i j → i < j) → Moves (At s t n 0) (λ i j. R (after_sign a i) j) (λ k l. S (after_sign b k) l)
  signed m some = grind (arith, nat_tests, common_steps)

  unsigned : Alike UnsignedDecimal
  unsigned = said (λ i j h. (h.digits, h.leading)) (λ k l h. record { digits = h.0; leading = h.1 })
      (also (digits 10) (λ i j k l o u v d h z. (let some = digits_on 10 a i j d in let x = h (w.same i k u.after u.moved (omega arith) ∙ z) in omega arith)))

  unsigned_on : (i j : ℕ) → UnsignedDecimal a i j → i < j
  unsigned_on i j h = digits_on 10 a i j h.digits

  magnitude_same : (radix i j k l : ℕ) → i ≤ j → At s t n 0 i k → At s t n 0 j l → magnitude radix a i j ≡ magnitude radix b k l
  magnitude_same radix i j k l o u v = ap (λ (r : List ℕ). digits_value radix (filter (is_digit_in radix) r)) (same_range w i j k l o u v)

  decimal : (m : ℤ) → Alike (DecimalInteger m)
  decimal m = said (λ i j h. (h.digits, h)) (λ k l h. h.1)
      (also (signed unsigned unsigned_on) (λ i j k l o u v d h. (
      let some = unsigned_on (after_sign a i) j d in
      let on = (sign_on a i).0 in
      record {
        digits = (signed unsigned unsigned_on).to i j k l u v d;
        ends = stays w (λ x. is_keylike x || x == 46) v goes_off h.ends;
        value = rw (magnitude_same 10 (after_sign a i) j (after_sign b k) l (omega arith) (sign_at u (omega arith)) v, negative_same u (omega arith)) at h.value;
      })))

  with_prefix : (m : ℤ) → Alike (RadixInteger m)
  with_prefix m = record {
    on = λ i j h. omega (arith, digits_on h.radix a (i + 2) j h.digits);
    to = λ i j k l u v h. (
        let some = digits_on h.radix a (i + 2) j h.digits in
        let x = further 2 (omega arith) u in
        let prefix : radix_at b k ≡ Some h.radix = rw (w.same i k u.after u.moved (omega arith), w.same (i + 1) (k + 1) (omega arith) (omega arith) (omega arith)) at h.prefix in
        record {
          radix = h.radix;
          prefix = prefix;
          digits = (digits h.radix).to (i + 2) j (k + 2) l x v h.digits;
          ends = stays w is_keylike v (off_bytes c off).0 h.ends;
          value = rw (magnitude_same h.radix (i + 2) j (k + 2) l (omega arith) x v) at h.value;
        });
  }

  exponent : Alike Exponent
  exponent = said (λ i j h. (h.letter, h.digits)) (λ k l h. record { letter = h.0; digits = h.1 }) (first w is_exponent true (signed (digits 10) (digits_on 10 a)))

  fraction : Alike Fraction
  fraction = said (λ i j h. (h.point, h.digits)) (λ k l h. record { point = h.0; digits = h.1 }) (first w (λ x. x) 46 (digits 10))

  pub literal : Alike FloatLiteral
  literal = said (λ i j h. ((h.integer_end, h.integer_part, h.rest), h.ends)) (λ k l h. record { integer_end = h.0.0; integer_part = h.0.1; rest = h.0.2; ends = h.1 })
      (also (in_sequence (signed unsigned unsigned_on) (either exponent (in_sequence fraction (either nothing exponent)))) (λ i j k l o u v h x. stays w is_keylike v (off_bytes c off).0 x))

  special : (word : List ℕ) → Alike (SpecialFloat word)
  special word = record {
    on = λ i j h. omega (arith, (sign_on a i).0, h.some);
    to = λ i j k l u v h. (
        let on = (sign_on a i).0 in
        let some = h.some in
        let x = sign_at u (omega arith) in
        record {
          letters = sym (same_range w (after_sign a i) j (after_sign b k) l (omega arith) x v) ∙ h.letters;
          some = omega arith;
          within = omega (arith, w.within);
          ends = stays w (λ x. is_keylike x || x == 46) v goes_off h.ends;
        });
  }

  special_sign : (word : List ℕ) (d : Bool) → Moves (At s t n 0) (λ i j. SpecialFloat word a i j × (d ≡ is_negative a i)) (λ k l. SpecialFloat word b k l × (d ≡ is_negative b k))
  special_sign word d = also (special word) (λ i j k l o u v h e. e ∙ negative_same u (omega (arith, (sign_on a i).0, h.some)))

  pub number : (x : Scalar) → Alike (IsNumber x)
  number (integer m) = either (decimal m) (with_prefix m)
  number (float (finite ds)) = also literal (λ i j k l o u v h e. e ∙ ap cleaned (same_range w i j k l o u v))
  number (float (infinite d)) = special_sign (codes "inf") d
  number (float (not_a_number d)) = special_sign (codes "nan") d
  number (text_scalar v) = record { on = λ i j h. absurd h; to = λ i j k l u v h. absurd h }
  number (boolean d) = record { on = λ i j h. absurd h; to = λ i j k l u v h. absurd h }
  number (datetime d) = record { on = λ i j h. absurd h; to = λ i j k l u v h. absurd h }

-- ---- digits as a part

-- digits without underscores
pub record Plain (ds : List ℕ) : Type 0 where
  pub some : 0 < length ds
  pub digits : (k : ℕ) → k < length ds → is_digit_in 10 (get_or ds k 0) ≡ true

pub plain_in : {text rest : List ℕ} {i j : ℕ} (ds : List ℕ) → Plain ds → is_figure 10 (get_or rest 0 0) ≡ false → Part text ds rest i j → Digits 10 text i j
plain_in {text} {rest} {i} {j} ds plain off p =
    let on = p.on in
    let some = plain.some in
    let all = each p (is_digit_in 10) plain.digits in
    record {
      begins = all i (omega arith) (omega arith);
      run = record { forward = omega arith; within = within p; passes = λ k a b. digit_figure 10 (get_or text k 0) (all k a b); stops = λ x. rw (next p) off };
      between = λ k a b u. absurd (digit_no_underscore 10 (get_or text k 0) (all k a b) u);
    }
