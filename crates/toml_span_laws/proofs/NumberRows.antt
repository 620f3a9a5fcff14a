-- The fault that reading a number has is one of the table.
use Rattle.toml_span_lex.proofs.Common.{◌≡◌, ℕ, ℤ, ◌+◌, ◌<◌, ◌⊎◌, Bool, true, false, not, List, length, get_or, arith, inl, inr, refl, sym, ◌∙◌, ◌==◌, ◌&&◌, ◌||◌, nat_lt, Option, Some, None, Result, Ok, Err, is_some, option_map_or, ok_or, if◌then◌else◌, slice_range, get_or_past, nat_tests, common_steps, cases_lt, false≢true, and_parts, ltb-true, ltb-false, not-true, not-false, eqb-false}
use Rattle.toml_span_lex.specs.Bytes.{is_keylike, MaximalRun}
use Rattle.toml_span_read.specs.declared.fault.Fault.{Fault}
use Rattle.toml_span_read.specs.declared.numbers.Numeral.{Numeral}
use Rattle.toml_span_read.specs.declared.numbers.Numeral.TheVariants as numerals
use Rattle.toml_span_read.specs.Numbers.{Digits}
use Rattle.toml_span_read.specs.Numerals as spec
use Rattle.toml_span_read.specs.Numerals.{◌>>=◌, invalid_number, run_end, figures_end, are_digits, digits_end, after_sign, is_negative, radix_at, magnitude, integer_part, signed, radix_integer, is_exponent, exponent_digits, decimal, special, special_end, unsigned, numeral, number}
use Rattle.toml_span_read.specs.code.Numbers.{IsRun}
use Rattle.toml_span_read.proofs.NumberLemmas.{byte_is, here, digits_sound, digits_complete, digits_on, sign_on}
use Rattle.toml_span_read.proofs.NumberReads.{digits_to, prefix_some, Starts}
use Rattle.toml_span_laws.specs.NumberFaults.{FirstRun, AfterDot, Letter, ExponentPart, in_its_run, after_its_plus, DigitPart, in_first_run, after_prefix, after_dot, of_exponent, NumberFault, lone_plus, plus_before, no_digits, underscore_first, leading_zero, other_character, other_in_exponent, lone_letter, other_after_prefix, fraction_of_word, nothing_after_dot, out_of_range, IsNumberFault}
use Rattle.toml_span_laws.proofs.KeptNumbers.{bind_given}
use Rattle.toml_span_laws.proofs.KeptScalars.{stops_with, run_on}

-- ---- runs

-- the run after this byte
next_run : (text : List ℕ) (k c : ℕ) → 0 < c → get_or text k 0 ≡ c → MaximalRun is_keylike text (k + 1) (run_end text (k + 1))
next_run text k c s h = run_on text (k + 1) (elim (cases_lt k (length text)) [ inl x ↦ omega arith | inr x ↦ (let z = get_or_past text k 0 x in absurd (omega (arith, z, h))) ])

empty_run : (text : List ℕ) (k : ℕ) → MaximalRun is_keylike text k (run_end text k) → (run_end text k == k) ≡ true → is_keylike (get_or text k 0) ≡ false
empty_run text k r h = let e : run_end text k ≡ k = byte_is (run_end text k) k h in let s = stops_with is_keylike text k (run_end text k) refl r in rw e at s

some_run : (text : List ℕ) (k : ℕ) → MaximalRun is_keylike text k (run_end text k) → (run_end text k == k) ≡ false → k < run_end text k
some_run text k r h = let f = r.forward in elim (cases_lt k (run_end text k)) [ inl x ↦ x | inr x ↦ (let e : run_end text k ≡ k = omega arith in absurd (eqb-false (run_end text k) k h e)) ]

-- ---- digits that are missing

none_read : (radix : ℕ) (text : List ℕ) (start from end j : ℕ) → (get_or text from 0 == 95) ≡ false → are_digits radix text from (figures_end radix text from) ≡ false → Digits radix text from j → ⊥
unfolding digits_end
none_read radix text start from end j c d ds =
    let h : ◌≡◌ {A = Result ℕ Fault} (Err (invalid_number start end)) (Ok j) = rw (c, d) at (digits_complete radix text start from end j ds) in absurd cc

if_ok : (c : Bool) (e : Fault) (x m : ℕ) → ◌≡◌ {A = Result ℕ Fault} (if c then Err e else Ok x) (Ok m) → x ≡ m
if_ok true e x m h = absurd cc
if_ok false e x m h = cc

part_sound : (text : List ℕ) (start from end m : ℕ) → integer_part text start from end ≡ Ok m → Digits 10 text from m
unfolding integer_part
part_sound text start from end m h =
    let (x, e, k) = bind_given (digits_end 10 text start from end) _ m h in
    let s : x ≡ m = if_ok _ _ x m k in
    rw s at (digits_sound 10 text start from end x e)

module _ (text : List ℕ) (i : ℕ) where
  -- the fault that is read, if any, is one of the table
  abbrev Rows : {A : Type 0} → Result A Fault → Type 0
  Rows r = (e : Fault) → r ≡ Err e → IsNumberFault text i e

  row : {A : Type 0} (s e : ℕ) → NumberFault text i s e → Rows {A = A} (Err (invalid_number s e))
  row s e f x h = let same : invalid_number s e ≡ x = cc in rw (← same) (f, refl)

  fine : {A : Type 0} (x : A) → Rows (Ok x)
  fine x e h = absurd cc

  rows_if : {A : Type 0} (c : Bool) (x y : Result A Fault) → (c ≡ true → Rows x) → (c ≡ false → Rows y) → Rows (if c then x else y)
  rows_if true x y f g = f refl
  rows_if false x y f g = g refl

  rows_bind : {A B : Type 0} (r : Result A Fault) (f : A → Result B Fault) → Rows r → ((x : A) → r ≡ Ok x → Rows (f x)) → Rows (r >>= f)
  rows_bind (Ok x) f first each e h = each x refl e h
  rows_bind (Err x) f first each e h = first e (let s : x ≡ e = cc in rw s refl)

  rows_or : {A K : Type 0} (o : Option K) (f : K → Result A Fault) (r : Result A Fault) → ((k : K) → o ≡ Some k → Rows (f k)) → (o ≡ None → Rows r) → Rows (option_map_or f o r)
  rows_or (Some k) f r some none = some k refl
  rows_or None f r some none = none refl

  digits_rows : (radix start from end : ℕ) → DigitPart text i radix start from end → Rows (digits_end radix text start from end)
  unfolding digits_end
  digits_rows radix start from end p =
      rows_if (get_or text from 0 == 95) _ _ (λ c. row from end (underscore_first radix start from end p (byte_is (get_or text from 0) 95 c)))
      (λ c. rows_if (are_digits radix text from (figures_end radix text from)) _ _ (λ d. fine _) (λ d. row start end (no_digits radix start from end p (λ j. none_read radix text start from end j c d))))

  part_rows : (a b : ℕ) → FirstRun text i a b → radix_at text a ≡ None → Rows (integer_part text a (after_sign text a) b)
  unfolding integer_part
  part_rows a b g n =
      rows_bind (digits_end 10 text a (after_sign text a) b) _ (digits_rows 10 a (after_sign text a) b (in_first_run a b g n))
      (λ m h. rows_if (get_or text (after_sign text a) 0 == 48 && nat_lt (after_sign text a + 1) m) _ _
      (λ c. (
      let p = and_parts (get_or text (after_sign text a) 0 == 48) (nat_lt (after_sign text a + 1) m) c in
      row _ b (leading_zero a b (after_sign text a) m g refl (byte_is (get_or text (after_sign text a) 0) 48 p.0) (digits_sound 10 text a (after_sign text a) b m h) (ltb-true (after_sign text a + 1) m p.1))))
      (λ c. fine m))

  -- ---- exponents and fractions

  exponent_digits_rows : (a b start from end : ℕ) → FirstRun text i a b → ExponentPart text i start from end → Rows (exponent_digits text a b start from end)
  unfolding exponent_digits
  exponent_digits_rows a b start from end g p =
      rows_bind (digits_end 10 text start from end) _ (digits_rows 10 start from end (of_exponent start from end p))
      (λ m h. rows_if (nat_lt m end) _ _ (λ c. row a b (other_in_exponent a b start from end m g p (digits_sound 10 text start from end m h) (ltb-true m end c))) (λ c. fine end))

  exponent_rows : (a b at end : ℕ) → FirstRun text i a b → Letter text i at end → Rows (spec.exponent text a b at end)
  unfolding spec.exponent
  exponent_rows a b at end g l =
      rows_if (nat_lt (at + 1) end) _ _ (λ c. exponent_digits_rows a b (at + 1) (after_sign text (at + 1)) end g (in_its_run at end l (ltb-true (at + 1) end c)))
      (λ c. (
      let e : end ≡ at + 1 = omega (arith, l.before_end, ltb-false (at + 1) end c) in
      rows_if (not (get_or text end 0 == 43)) _ _ (λ n. row a b (lone_letter a b at end g l e (inl (not-true (get_or text end 0 == 43) n))))
      (λ n. (
      let plus : get_or text end 0 ≡ 43 = byte_is (get_or text end 0) 43 (not-false (get_or text end 0 == 43) n) in
      let r = next_run text end 43 (omega arith) plus in
      rows_if (run_end text (end + 1) == end + 1) _ _ (λ o. row a b (lone_letter a b at end g l e (inr (empty_run text (end + 1) r o))))
      (λ o. exponent_digits_rows a b (end + 1) (end + 1) (run_end text (end + 1)) g (after_its_plus at end (run_end text (end + 1)) l e plus r (some_run text (end + 1) r o)))))))

  fraction_rows : (a b : ℕ) → FirstRun text i a b → get_or text b 0 ≡ 46 → Rows (spec.fraction text i a b)
  unfolding spec.fraction
  fraction_rows a b g dot =
      let end : ℕ = run_end text (b + 1) in
      let r : MaximalRun is_keylike text (b + 1) end = next_run text b 46 (omega arith) dot in
      rows_if (end == b + 1) _ _ (λ c. row i (b + 1) (nothing_after_dot a b g dot (empty_run text (b + 1) r c)))
      (λ c. (
      let f : AfterDot text i a b end = record { first = g; dot = dot; run = r } in
      let part = after_dot a b end f (some_run text (b + 1) r c) in
      rows_bind (digits_end 10 text (b + 1) (b + 1) end) _ (digits_rows 10 (b + 1) (b + 1) end part)
      (λ m h. (
      let d = digits_sound 10 text (b + 1) (b + 1) end m h in
      let to = digits_to 10 text (b + 1) m end d r.forward (stops_with is_keylike text (b + 1) end refl r) in
      let on = digits_on 10 text (b + 1) m d in
      rows_if (m == end) _ _ (λ e. fine m)
      (λ e. (
      let less : m < end = elim (cases_lt m end) [ inl x ↦ x | inr x ↦ (let s : m ≡ end = omega arith in absurd (eqb-false m end e s)) ] in
      rows_if (is_exponent (get_or text m 0)) _ _
      (λ x. exponent_rows a b m end g (record { a = a; b = b; letter = x; before_end = less; inside = inr (f, omega arith) }))
      (λ x. row a b (other_character a b (b + 1) (b + 1) end m g part d less x))))))))

  -- ---- integers

  or_rows : (o : Option ℤ) (start end : ℕ) → (o ≡ None → NumberFault text i start end) → Rows (ok_or o (invalid_number start end))
  or_rows (Some x) start end f = fine x
  or_rows None start end f = row start end (f refl)

  integer_rows : (radix : ℕ) (negative : Bool) (start from end : ℕ) → DigitPart text i radix start from end → Digits radix text from end → Rows (spec.integer radix text negative start from end)
  unfolding spec.integer
  integer_rows radix negative start from end p d = or_rows (signed negative (magnitude radix text from end)) start end (λ n. out_of_range radix start from end negative p d n)

  passes : (a b : ℕ) → FirstRun text i a b → IsRun text a b
  passes a b g = record { forward = g.run.forward; within = g.run.within; passes = g.run.passes; last = stops_with is_keylike text a b refl g.run }

  radix_rows : (radix a b : ℕ) → FirstRun text i a b → radix_at text a ≡ Some radix → Rows (radix_integer radix text (a + 2) b)
  unfolding radix_integer
  radix_rows radix a b g n =
      let o = prefix_some text a b radix (passes a b g) g.some n in
      let part = after_prefix radix a b g n in
      rows_bind (digits_end radix text (a + 2) (a + 2) b) _ (digits_rows radix (a + 2) (a + 2) b part)
      (λ m h. (
      let d = digits_sound radix text (a + 2) (a + 2) b m h in
      let to = digits_to radix text (a + 2) m b d o (stops_with is_keylike text a b refl g.run) in
      rows_if (nat_lt m b) _ _ (λ c. row (a + 2) b (other_after_prefix radix a b m g n d (ltb-true m b c)))
      (λ c. (let e : m ≡ b = omega (arith, ltb-false m b c) in integer_rows radix false (a + 2) (a + 2) b part (rw e at d)))))

  -- ---- numbers

  finite_rows : (r : Result ℕ Fault) → Rows r → Rows {A = Numeral × ℕ} (r >>= (λ j. Ok (numerals.Finite, j)))
  finite_rows r h = rows_bind r _ h (λ x e. fine (numerals.Finite, x))

  decimal_rows : (a b : ℕ) → FirstRun text i a b → radix_at text a ≡ None → Rows (decimal text i a b)
  unfolding decimal
  decimal_rows a b g n =
      let part = in_first_run a b g n in
      let s = sign_on text a in
      let some = g.some in
      rows_bind (integer_part text a (after_sign text a) b) _ (part_rows a b g n)
      (λ m h. (
      let d = part_sound text a (after_sign text a) b m h in
      let on = digits_on 10 text (after_sign text a) m d in
      let to = digits_to 10 text (after_sign text a) m b d (omega arith) (stops_with is_keylike text a b refl g.run) in
      rows_if (nat_lt m b) _ _
      (λ c. rows_if (is_exponent (get_or text m 0)) _ _
      (λ x. finite_rows _ (exponent_rows a b m b g (record { a = a; b = b; letter = x; before_end = ltb-true m b c; inside = inl (g, omega arith) })))
      (λ x. row a b (other_character a b a (after_sign text a) b m g part d (ltb-true m b c) x)))
      (λ c. (
      let e : m ≡ b = omega (arith, ltb-false m b c) in
      rows_if (get_or text b 0 == 46) _ _ (λ p. finite_rows _ (fraction_rows a b g (byte_is (get_or text b 0) 46 p)))
      (λ p. rows_bind (spec.integer 10 text (is_negative text a) a (after_sign text a) b) _ (integer_rows 10 (is_negative text a) a (after_sign text a) b part (rw e at d)) (λ x k. fine (numerals.Integer x, b)))))))

  special_rows : (a b : ℕ) (n : Numeral) → FirstRun text i a b → special (is_negative text a) (slice_range text (after_sign text a) b) ≡ Some n → Rows (special_end text i a b n)
  unfolding special_end
  special_rows a b n g h =
      rows_if (not (get_or text b 0 == 46)) _ _ (λ c. fine (n, b))
      (λ c. (
      let dot : get_or text b 0 ≡ 46 = byte_is (get_or text b 0) 46 (not-false (get_or text b 0 == 46) c) in
      let r : MaximalRun is_keylike text (b + 1) (run_end text (b + 1)) = next_run text b 46 (omega arith) dot in
      rows_if (run_end text (b + 1) == b + 1) _ _ (λ d. row i (b + 1) (nothing_after_dot a b g dot (empty_run text (b + 1) r d)))
      (λ d. row a b (fraction_of_word a b (run_end text (b + 1)) (record { first = g; dot = dot; run = r }) (some_run text (b + 1) r d) (rw h refl)))))

  unsigned_rows : (a b : ℕ) → FirstRun text i a b → Rows (unsigned text i a b)
  unfolding unsigned
  unsigned_rows a b g =
      rows_or (radix_at text a) _ _ (λ radix n. rows_bind (radix_integer radix text (a + 2) b) _ (radix_rows radix a b g n) (λ x k. fine (numerals.Integer x, b)))
      (λ n. rows_or (special (is_negative text a) (slice_range text (after_sign text a) b)) _ _ (λ x h. special_rows a b x g h) (λ h. decimal_rows a b g n))

  first_some : is_keylike (get_or text i 0) ≡ true → FirstRun text i i (run_end text i)
  first_some h =
      let r = run_on text i (omega (arith, here is_keylike text i refl h)) in
      let f = r.forward in
      record {
        run = r;
        some = elim (cases_lt i (run_end text i)) [ inl x ↦ x | inr x ↦ (let e : run_end text i ≡ i = omega arith in let s = stops_with is_keylike text i (run_end text i) refl r in absurd (false≢true (sym (rw e at s) ∙ h))) ];
        begins = inl refl;
      }

  numeral_rows : Starts text i → Rows (numeral text i)
  unfolding numeral
  numeral_rows begins =
      rows_if (not (get_or text i 0 == 43)) _ _ (λ c. unsigned_rows i (run_end text i) (first_some (grind (arith, nat_tests, common_steps))))
      (λ c. (
      let plus : get_or text i 0 ≡ 43 = byte_is (get_or text i 0) 43 (not-false (get_or text i 0 == 43) c) in
      let r : MaximalRun is_keylike text (i + 1) (run_end text (i + 1)) = next_run text i 43 (omega arith) plus in
      rows_if (run_end text (i + 1) == i + 1) _ _ (λ d. row (i + 1) (i + 1) (lone_plus plus (empty_run text (i + 1) r d)))
      (λ d. rows_if (get_or text (i + 1) 0 == 45 || is_some (radix_at text (i + 1))) _ _
      (λ e. row i (run_end text (i + 1)) (plus_before (run_end text (i + 1)) plus r (dash_or (get_or text (i + 1) 0 == 45) refl e)))
      (λ e. unsigned_rows (i + 1) (run_end text (i + 1)) (record { run = r; some = some_run text (i + 1) r d; begins = inr (plus, refl) })))))
    where
      dash_or : (x : Bool) → (get_or text (i + 1) 0 == 45) ≡ x → (x || is_some (radix_at text (i + 1))) ≡ true → (get_or text (i + 1) 0 ≡ 45) ⊎ (is_some (radix_at text (i + 1)) ≡ true)
      dash_or true h e = inl (byte_is (get_or text (i + 1) 0) 45 h)
      dash_or false h e = inr e

  pub number_rows : Starts text i → Rows (number text i)
  unfolding number
  number_rows begins = rows_bind (numeral text i) _ (numeral_rows begins) (λ p h. fine _)
