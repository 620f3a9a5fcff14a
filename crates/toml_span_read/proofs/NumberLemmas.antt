-- Steps of reading numbers, and their results.
use Rattle.std.specs.Str.Parse.{digits_value, digits_value_after}
use Rattle.toml_span_lex.proofs.Common.{common_steps, ◌≡◌, ℕ, ◌+◌, ◌-◌, ◌<◌, ◌≤◌, ◌⊎◌, Bool, true, false, drop, take, zero, suc, Option, Some, None, is_some, Ok, Err, List, [], ◌∷◌, length, get_or, arith, inl, inr, refl, sym, ◌∙◌, length-drop, length-take, drop_more, get_or_past, prefix_len-le-length, prefix_len_passes, prefix_len_stops, prefix_len, list_all, range_with_len, ◌*◌, ◌^◌, filter, slice_range, not, ◌==◌, ◌||◌, ◌&&◌, cases_lt, and_parts, and_from, or_from, or_right, false≢true, nat_tests, digit_value}
use Rattle.std.proofs.Math.Nat.{le-mul_of_pos_right}
use Rattle.std.proofs.lemmas.List.{get_or-drop}
use Rattle.toml_span_lex.specs.Bytes.{is_keylike, MaximalRun}
use Rattle.toml_span_lex.proofs.Unique.{run_unique}
use Rattle.toml_span_read.specs.Numbers.{Digits, FloatLiteral, Exponent, Fraction, goes_on}
use Rattle.toml_span_read.specs.Numerals.{is_digit_in, is_figure, after_sign, is_exponent}
use Rattle.toml_span_read.specs.Numerals.{invalid_number, run_end, figures_end, are_digits, digits_end, signed}
use Rattle.toml_span_read.specs.code.Numbers.{DigitGives, IsRun}

-- ---- bytes

pub is_false : (b : Bool) → (b ≡ true → ⊥) → b ≡ false
is_false b h = grind (arith, nat_tests, common_steps)

pub bool_cases : (b : Bool) → (b ≡ true) ⊎ (b ≡ false)
bool_cases b = grind (arith, nat_tests, common_steps)

pub and_left : (a b : Bool) → (a && b) ≡ true → a ≡ true
and_left a b h = grind (arith, nat_tests, common_steps)

pub byte_is : (c k : ℕ) → (c == k) ≡ true → c ≡ k
byte_is c k h = grind (arith, nat_tests)

pub same_byte : (c k : ℕ) → c ≡ k → (c == k) ≡ true
same_byte c k h = grind (arith, nat_tests)

-- a byte that passes and one that does not
pub clash : (p : ℕ → Bool) (b k : ℕ) → p b ≡ true → b ≡ k → p k ≡ false → ⊥
clash p b k h e n = false≢true (sym n ∙ (rw e at h))

pub digit_keylike : (radix c : ℕ) → is_digit_in radix c ≡ true → is_keylike c ≡ true
digit_keylike radix c h = grind (arith, and_left)

pub digit_figure : (radix c : ℕ) → is_digit_in radix c ≡ true → is_figure radix c ≡ true
digit_figure radix c h = rw h refl

pub underscore_figure : (radix c : ℕ) → c ≡ 95 → is_figure radix c ≡ true
underscore_figure radix c e = or_right _ _ (same_byte c 95 e)

pub figure_keylike : (radix c : ℕ) → is_figure radix c ≡ true → is_keylike c ≡ true
figure_keylike radix c h = grind (arith, nat_tests, digit_keylike)

pub no_keylike_figure : (radix c : ℕ) → is_keylike c ≡ false → is_figure radix c ≡ false
no_keylike_figure radix c h = is_false _ (λ f. false≢true (sym h ∙ figure_keylike radix c f))

pub no_keylike_digit : (radix c : ℕ) → is_keylike c ≡ false → is_digit_in radix c ≡ false
no_keylike_digit radix c h = is_false _ (λ d. false≢true (sym h ∙ digit_keylike radix c d))

pub no_figure : (radix c : ℕ) → is_digit_in radix c ≡ false → (c == 95) ≡ false → is_figure radix c ≡ false
no_figure radix c h u = or_from _ _ h u

pub digit_no_underscore : (radix c : ℕ) → is_digit_in radix c ≡ true → c ≡ 95 → ⊥
digit_no_underscore radix c h e = clash (is_digit_in radix) c 95 h e refl

figure_underscore : (radix c : ℕ) → is_figure radix c ≡ true → is_digit_in radix c ≡ false → c ≡ 95
figure_underscore radix c h d = grind (arith, nat_tests)

-- a byte that passes is in the text
pub here : (p : ℕ → Bool) (text : List ℕ) (i : ℕ) → p 0 ≡ false → p (get_or text i 0) ≡ true → i < length text
here p text i z h = grind (arith, get_or_past)

-- ---- runs

-- the run of bytes that pass
pub run_found : (p : ℕ → Bool) (text : List ℕ) (i : ℕ) → i ≤ length text → MaximalRun p text i (i + prefix_len p (drop i text))
run_found p text i w =
    let n : ℕ = prefix_len p (drop i text) in
    let l = prefix_len-le-length p (drop i text) in
    record {
      forward = omega arith;
      within = omega (arith, l, length-drop i text);
      passes = λ k a b. (
          let e : i + (k - i) ≡ k = omega arith in
          let g : get_or (drop i text) (k - i) 0 ≡ get_or text k 0 = get_or-drop i text (k - i) 0 ∙ (rw e refl) in
          rw (← g) (prefix_len_passes p (drop i text) (k - i) 0 (omega arith)));
      stops = λ s. rw (← get_or-drop i text n 0) (prefix_len_stops p (drop i text) 0 (omega (arith, length-drop i text)));
    }

stops_with : (p : ℕ → Bool) (text : List ℕ) (i j : ℕ) → p 0 ≡ false → MaximalRun p text i j → p (get_or text j 0) ≡ false
stops_with p text i j z r = grind (arith, get_or_past)

pub run_is : (text : List ℕ) (i j : ℕ) → MaximalRun is_keylike text i j → run_end text i ≡ j
unfolding run_end
run_is text i j r = grind (arith, run_found)

pub run_passes : (text : List ℕ) (i : ℕ) → i ≤ length text → IsRun text i (run_end text i)
unfolding run_end
run_passes text i w = grind (arith, nat_tests, common_steps, stops_with, run_found)

pub passes_on : (text : List ℕ) (i k j : ℕ) → IsRun text i j → i ≤ k → k ≤ j → IsRun text k j
passes_on text i k j r a b = record { forward = b; within = r.within; passes = λ l x y. r.passes l (omega arith) y; last = r.last }

-- ---- digits

pub digit_some : (radix c : ℕ) (o : Option ℕ) → DigitGives radix c o → is_some o ≡ true → is_digit_in radix c ≡ true
digit_some radix c o h e = grind (arith, nat_tests, common_steps)

pub digit_none : (radix c : ℕ) (o : Option ℕ) → DigitGives radix c o → is_some o ≡ false → is_digit_in radix c ≡ false
digit_none radix c o h e = grind (arith, nat_tests, common_steps)

-- there is neither a digit nor an underscore where digits end
pub digits_stop : (radix : ℕ) (text : List ℕ) (i j : ℕ) → Digits radix text i j → is_figure radix (get_or text j 0) ≡ false
digits_stop radix text i j d = stops_with (is_figure radix) text i j refl d.run

pub digits_on : (radix : ℕ) (text : List ℕ) (i j : ℕ) → Digits radix text i j → i < j
digits_on radix text i j d = let f = d.run.forward in grind (arith, digits_stop radix text i j d, digit_figure radix (get_or text i 0) d.begins)

all_at : (p : ℕ → Bool) (i n : ℕ) → list_all p (range_with_len i n) ≡ true → (k : ℕ) → i ≤ k → k < i + n → p k ≡ true
all_at p i zero h k a b = absurd (omega arith)
all_at p i (suc n) h k a b = grind (arith, nat_tests, all_at p (i + 1) n)

all_from : (p : ℕ → Bool) (i n : ℕ) → ((k : ℕ) → i ≤ k → k < i + n → p k ≡ true) → list_all p (range_with_len i n) ≡ true
all_from p i zero h = refl
all_from p i (suc n) h = grind (arith, all_from p (i + 1) n)

digits_found : (radix : ℕ) (text : List ℕ) (i : ℕ) → are_digits radix text i (figures_end radix text i) ≡ true → Digits radix text i (figures_end radix text i)
unfolding are_digits figures_end
digits_found radix text i h =
    let j : ℕ = i + prefix_len (is_figure radix) (drop i text) in
    let spaced : ℕ → Bool = λ k. not (get_or text k 0 == 95) || is_digit_in radix (get_or text (k + 1) 0) in
    let p = and_parts (is_digit_in radix (get_or text i 0)) (list_all spaced (range_with_len i (j - i))) h in
    let l : i < length text = here (is_digit_in radix) text i refl p.0 in
    record { begins = p.0; run = run_found (is_figure radix) text i (omega arith); between = λ k a b u. grind (arith, nat_tests, all_at spaced i (j - i) p.1 k) }

are_spelled : (radix : ℕ) (text : List ℕ) (i j : ℕ) → Digits radix text i j → are_digits radix text i j ≡ true
unfolding are_digits
are_spelled radix text i j d = grind (arith, and_from, all_from, byte_is)

-- the digits that are read are those in the text
pub digits_sound : (radix : ℕ) (text : List ℕ) (start from end j : ℕ) → digits_end radix text start from end ≡ Ok j → Digits radix text from j
unfolding digits_end
digits_sound radix text start from end j h = grind (arith, nat_tests, digits_found radix text from)

pub digits_complete : (radix : ℕ) (text : List ℕ) (start from end j : ℕ) → Digits radix text from j → digits_end radix text start from end ≡ Ok j
unfolding digits_end figures_end
digits_complete radix text start from end j d =
    let w = d.run.forward in
    let e : figures_end radix text from ≡ j = run_unique (is_figure radix) text from _ j (run_found (is_figure radix) text from (omega (arith, d.run.within))) d.run in
    grind (arith, nat_tests, are_spelled radix text from j d, digit_no_underscore radix (get_or text from 0) d.begins)

-- if there are none, the fault spans the whole piece
pub digits_none : (radix : ℕ) (text : List ℕ) (start from end : ℕ) → (get_or text from 0 == 95) ≡ false → ((j : ℕ) → Digits radix text from j → ⊥)
    → digits_end radix text start from end ≡ Err (invalid_number start end)
unfolding digits_end
digits_none radix text start from end u n = grind (arith, is_false, digits_found)

-- digits and underscores have been read from `from` to `at`; `was_digit` says whether the last one is a digit
pub record Reading (radix : ℕ) (text : List ℕ) (from end at : ℕ) (was_digit : Bool) : Type 0 where
  pub first : from < end → (get_or text from 0 == 95) ≡ false
  pub figures : (l : ℕ) → from ≤ l → l < at → is_figure radix (get_or text l 0) ≡ true
  pub between : (l : ℕ) → from ≤ l → l + 1 < at → get_or text l 0 ≡ 95 → is_digit_in radix (get_or text (l + 1) 0) ≡ true
  pub last : (l : ℕ) → from ≤ l → l + 1 ≡ at → is_digit_in radix (get_or text l 0) ≡ was_digit
  pub begins : from < at → is_digit_in radix (get_or text from 0) ≡ true
  pub none : at ≡ from → was_digit ≡ false

pub reading_digit : (radix : ℕ) (text : List ℕ) (from end at : ℕ) (was : Bool) → Reading radix text from end at was → from ≤ at → is_digit_in radix (get_or text at 0) ≡ true
    → Reading radix text from end (at + 1) true
reading_digit radix text from end at was r g h = record {
  first = r.first;
  figures = λ l a b. elim (cases_lt l at) [ inl x ↦ r.figures l a x | inr x ↦ let e : l ≡ at = omega arith in rw e (digit_figure radix (get_or text at 0) h) ];
  between = λ l a b u. elim (cases_lt (l + 1) at) [ inl x ↦ r.between l a x u | inr x ↦ let e : l + 1 ≡ at = omega arith in rw e h ];
  last = λ l a b. let e : l ≡ at = omega arith in rw e h;
  begins = λ a. elim (cases_lt from at) [ inl x ↦ r.begins x | inr x ↦ let e : from ≡ at = omega arith in rw e h ];
  none = λ e. absurd (omega arith);
}

pub reading_underscore : (radix : ℕ) (text : List ℕ) (from end at : ℕ) → Reading radix text from end at true → from ≤ at → get_or text at 0 ≡ 95
    → Reading radix text from end (at + 1) false
reading_underscore radix text from end at r g h = record {
  first = r.first;
  figures = λ l a b. elim (cases_lt l at) [ inl x ↦ r.figures l a x | inr x ↦ let e : l ≡ at = omega arith in rw e (underscore_figure radix (get_or text at 0) h) ];
  between = λ l a b u. elim (cases_lt (l + 1) at) [
    | inl x ↦ r.between l a x u
    | inr x ↦ absurd (digit_no_underscore radix (get_or text l 0) (r.last l a (omega arith)) u)
  ];
  last = λ l a b. let e : l ≡ at = omega arith in rw (e, h) refl;
  begins = λ a. elim (cases_lt from at) [ inl x ↦ r.begins x | inr x ↦ absurd (false≢true (sym (r.none (omega arith)))) ];
  none = λ e. absurd (omega arith);
}

pub digits_read : (radix : ℕ) (text : List ℕ) (from end at : ℕ) → Reading radix text from end at true → from ≤ at → at ≤ length text → is_figure radix (get_or text at 0) ≡ false
    → Digits radix text from at
digits_read radix text from end at r g w h =
    let some : from < at = elim (cases_lt from at) [ inl x ↦ x | inr x ↦ absurd (false≢true (sym (r.none (omega arith)))) ] in
    record {
      begins = r.begins some;
      run = record { forward = g; within = w; passes = r.figures; stops = λ l. h };
      between = λ k a b u. elim (cases_lt (k + 1) at) [
        | inl x ↦ r.between k a x u
        | inr x ↦ absurd (digit_no_underscore radix (get_or text k 0) (r.last k a (omega arith)) u)
      ];
    }

-- after an underscore, or at the start, there is no digit
no_digits_read : (radix : ℕ) (text : List ℕ) (from end at j : ℕ) → Reading radix text from end at false → from ≤ at → is_digit_in radix (get_or text at 0) ≡ false → Digits radix text from j → ⊥
no_digits_read radix text from end at j r g h d = elim (cases_lt from at) [
  | inl x ↦ grind (arith, figure_underscore radix (get_or text (at - 1) 0), r.figures (at - 1), r.last (at - 1), digits_stop radix text from j d, r.figures j, d.between (at - 1), d.run.forward)
  | inr x ↦ grind (arith, d.begins)
]

pub no_digits_inside : (radix : ℕ) (text : List ℕ) (start from end at : ℕ) (was : Bool) → Reading radix text from end at was → was ≡ false → from ≤ at → at < end
    → is_digit_in radix (get_or text at 0) ≡ false → digits_end radix text start from end ≡ Err (invalid_number start end)
no_digits_inside radix text start from end at was r w g l h =
    digits_none radix text start from end (r.first (omega arith)) (λ j d. no_digits_read radix text from end at j (rw w at r) g h d)

pub no_digits_at_end : (radix : ℕ) (text : List ℕ) (start from end : ℕ) (was : Bool) → Reading radix text from end end was → was ≡ false → from ≤ end
    → is_keylike (get_or text end 0) ≡ false → digits_end radix text start from end ≡ Err (invalid_number start end)
no_digits_at_end radix text start from end was r w g n =
    digits_none radix text start from end (grind (arith, nat_tests, r.first))
    (λ j d. no_digits_read radix text from end end j (rw w at r) g (no_keylike_digit radix (get_or text end 0) n) d)

-- ---- signs

pub no_sign : (text : List ℕ) (i : ℕ) → (get_or text i 0 == 43) ≡ false → (get_or text i 0 == 45) ≡ false → after_sign text i ≡ i
no_sign text i p h = rw (p, h) refl

pub after_plus_sign : (text : List ℕ) (i : ℕ) → get_or text i 0 ≡ 43 → after_sign text i ≡ i + 1
after_plus_sign text i h = rw h refl

-- a sign is one byte
pub sign_on : (text : List ℕ) (i : ℕ) → (i ≤ after_sign text i) × (after_sign text i ≤ i + 1)
sign_on text i = grind arith

pub stands_alone : (text : List ℕ) (j : ℕ) → is_keylike (get_or text j 0) ≡ false → (get_or text j 0 == 46) ≡ false → goes_on text j ≡ false
stands_alone text j k d = or_from _ _ k d

-- ---- values

-- v is the number that the digits before `rest` denote
abbrev pub Summed : ℕ → ℕ → List ℕ → List ℕ → Type 0
Summed radix v rest all = digits_value_after radix v (filter (is_digit_in radix) rest) ≡ digits_value radix (filter (is_digit_in radix) all)

pub sum_goes_on : (radix v w i : ℕ) (digits : List ℕ) → i < length digits → is_digit_in radix (get_or digits i 0) ≡ true → w ≡ v * radix + digit_value (get_or digits i 0)
    → Summed radix v (drop i digits) digits → Summed radix w (drop (i + 1) digits) digits
sum_goes_on radix v w i digits l h e s = grind (arith, nat_tests, common_steps, drop_more)

pub sum_passes : (radix v i : ℕ) (digits : List ℕ) → i < length digits → is_digit_in radix (get_or digits i 0) ≡ false
    → Summed radix v (drop i digits) digits → Summed radix v (drop (i + 1) digits) digits
sum_passes radix v i digits l h s = grind (arith, nat_tests, common_steps)

-- a number that exceeds 64 bits still does after more digits
past_with_digits : (radix n : ℕ) (cs : List ℕ) → 1 ≤ radix → 2 ^ 64 ≤ n → 2 ^ 64 ≤ digits_value_after radix n cs
past_with_digits radix n [] l h = h
past_with_digits radix n (c ∷ cs) l h = past_with_digits radix (n * radix + digit_value c) cs l (omega (arith, h, le-mul_of_pos_right n l))

pub sum_past : (radix v i d : ℕ) (digits : List ℕ) → i < length digits → is_digit_in radix (get_or digits i 0) ≡ true → d ≡ digit_value (get_or digits i 0)
    → Summed radix v (drop i digits) digits → 2 ^ 64 ≤ v * radix + d → 2 ^ 64 ≤ digits_value radix (filter (is_digit_in radix) digits)
sum_past radix v i d digits l h e s b =
    let g = sum_goes_on radix v (v * radix + d) i digits l h (rw e refl) s in
    rw g at (past_with_digits radix (v * radix + d) (filter (is_digit_in radix) (drop (i + 1) digits)) (grind (arith, nat_tests)) b)

pub signed_past : (negative : Bool) (m : ℕ) → 2 ^ 64 ≤ m → signed negative m ≡ None
unfolding signed
signed_past negative m l = grind (arith, nat_tests, common_steps)

-- ---- bytes of literals

digits_ascii : (radix : ℕ) (text : List ℕ) (i j k : ℕ) → Digits radix text i j → i ≤ k → k < j → get_or text k 0 < 128
digits_ascii radix text i j k d a b = let h = figure_keylike radix (get_or text k 0) (d.run.passes k a b) in grind arith

sign_ascii : (text : List ℕ) (i k : ℕ) → i ≤ k → k < after_sign text i → get_or text k 0 < 128
sign_ascii text i k a b = grind (arith, nat_tests, common_steps)

exponent_small : (c : ℕ) → is_exponent c ≡ true → c < 128
exponent_small c h = grind arith

exponent_ascii : (text : List ℕ) (i j k : ℕ) → Exponent text i j → i ≤ k → k < j → get_or text k 0 < 128
exponent_ascii text i j k x a b = grind (arith, sign_ascii text (i + 1) k, digits_ascii 10 text (after_sign text (i + 1)) j k x.digits, exponent_small (get_or text i 0) x.letter)

fraction_ascii : (text : List ℕ) (i j k : ℕ) → Fraction text i j → i ≤ k → k < j → get_or text k 0 < 128
fraction_ascii text i j k x a b = grind (arith, digits_ascii 10 text (i + 1) j k x.digits, x.point)

rest_ascii : (text : List ℕ) (i j k : ℕ) → Exponent text i j ⊎ ((m : ℕ) × Fraction text i m × ((j ≡ m) ⊎ Exponent text m j)) → i ≤ k → k < j → get_or text k 0 < 128
rest_ascii text i j k (inl x) a b = exponent_ascii text i j k x a b
rest_ascii text i j k (inr (m, f, o)) a b = grind (arith, fraction_ascii text i m k f, exponent_ascii text m j k)

float_ascii : (text : List ℕ) (i j k : ℕ) → FloatLiteral text i j → i ≤ k → k < j → get_or text k 0 < 128
float_ascii text i j k f a b = grind (arith, sign_ascii text i k, digits_ascii 10 text (after_sign text i) f.integer_end k f.integer_part.digits, rest_ascii text f.integer_end j k f.rest)

-- ---- slices

pub slice_cons : (text : List ℕ) (a b : ℕ) → a < b → b ≤ length text → slice_range text a b ≡ get_or text a 0 ∷ slice_range text (a + 1) b
slice_cons text a b l w = grind (arith, drop_more)

pub range_length : (text : List ℕ) (a b : ℕ) → b ≤ length text → length (slice_range text a b) ≡ b - a
range_length text a b w = omega (arith, length-take (b - a) (drop a text), length-drop a text)

pub range_at : (text : List ℕ) (a b k : ℕ) → a ≤ k → k < b → get_or (slice_range text a b) (k - a) 0 ≡ get_or text k 0
range_at text a b k x y = grind (arith, nat_tests, common_steps)

slice_byte : (text : List ℕ) (a n k : ℕ) → ((l : ℕ) → a ≤ l → l < a + n → get_or text l 0 < 128) → get_or (take n (drop a text)) k 0 < 128
slice_byte text a n k h = grind (arith, nat_tests, common_steps)

-- each byte of a part of a float's literal
pub slice_ascii : (text : List ℕ) (i a b k : ℕ) → FloatLiteral text i b → i ≤ a → a ≤ b → get_or (slice_range text a b) k 0 < 128
slice_ascii text i a b k f s g = slice_byte text a (b - a) k (λ l x y. float_ascii text i b l f (omega arith) (omega arith))

pub slice_some : (text : List ℕ) (a b x : ℕ) (xs : List ℕ) → slice_range text a b ≡ x ∷ xs → a < b
slice_some text a b x xs h = grind (arith, nat_tests, common_steps)

pub slice_first : (text : List ℕ) (a b x : ℕ) (xs : List ℕ) → a < b → b ≤ length text → slice_range text a b ≡ x ∷ xs → (get_or text a 0 ≡ x) × (slice_range text (a + 1) b ≡ xs)
slice_first text a b x xs l w h = grind (arith, slice_cons)

pub none_some : (n : ℕ) → None ≡ Some n → ⊥
none_some n e = cc
