-- A number that is read is spelled, and a fault is within the text.
use Rattle.toml_span_lex.proofs.Common.{common_steps, nat_tests, ◌≡◌, ℕ, ◌+◌, ◌-◌, ◌<◌, ◌≤◌, ◌⊎◌, Bool, true, false, List, length, get_or, arith, Ok, Err, Option, Some, None, is_some, inl, inr, refl, subst, cases_lt, not-true, not-false, or_parts, eqb-false, ltb-false, false≢true, list_all_at, bytes_eq-Decides, list_all, option_map_or, ℤ, not, ◌==◌, ◌||◌, ◌&&◌, nat_lt, slice_range, codes, if◌then◌else◌, IsUtf8, Result}
use Rattle.std.proofs.lemmas.Bool.{ltb-true}
use Rattle.toml_span_lex.specs.Bytes.{is_keylike}
use Rattle.toml_span_lex.proofs.Runs.{after_ascii, keylike_ascii}
use Rattle.toml_span_tree.specs.Node.{Scalar, text as text_scalar, integer, float, boolean, datetime, finite, infinite, not_a_number}
use Rattle.toml_span_read.specs.declared.fault.Fault.{Fault}
use Rattle.toml_span_read.specs.declared.numbers.Numeral.{Numeral}
use Rattle.toml_span_read.specs.declared.numbers.Numeral.TheVariants as numerals
use Rattle.toml_span_read.specs.Numbers.{Digits, UnsignedDecimal, Exponent, Fraction, FloatLiteral, SpecialFloat}
use Rattle.toml_span_read.specs.Numbers.{IsNumber, IsSigned}
use Rattle.toml_span_read.specs.Numerals.{after_sign, is_negative, radix_at, magnitude, is_exponent}
use Rattle.toml_span_read.specs.Numerals as spec
use Rattle.toml_span_read.specs.Numerals.{◌>>=◌, invalid_number, run_end, scalar_of, digits_end, integer_part, exponent_digits, exponent, fraction, signed, decimal, special, special_end, unsigned, numeral, number, radix_integer}
use Rattle.toml_span_read.specs.Faults.{StartsInside}
use Rattle.toml_span_read.specs.code.Gaps.{Further}
use Rattle.toml_span_read.specs.code.Numbers.{IsRun, IsNumeral}
use Rattle.toml_span_read.proofs.NumberLemmas.{bool_cases, byte_is, here, figure_keylike, digits_sound, digits_on, run_passes, passes_on, sign_on, after_plus_sign, stands_alone, slice_some, range_length, range_at}

-- ---- steps that may fail

-- what holds for each number that is read; each fault is within the text
pub record Reads {A : Type 0} (text : List ℕ) (r : Result A Fault) (Q : A → Type 0) : Type 0 where
  pub given : (a : A) → r ≡ Ok a → Q a
  pub told : (e : Fault) → r ≡ Err e → StartsInside text e.span

pub done : {A : Type 0} (text : List ℕ) (a : A) (Q : A → Type 0) → Q a → Reads text (Ok a) Q
done text a Q q = record { given = λ b e. (let s : a ≡ b = cc in subst (λ x. Q x) s q); told = λ e h. absurd cc }

-- a fault from s to e is within the text
abbrev Placed : List ℕ → ℕ → ℕ → Type 0
Placed text s e = (s ≤ e) × (s ≤ length text)

fails : {A : Type 0} (text : List ℕ) (s e : ℕ) (Q : A → Type 0) → Placed text s e → Reads text (Err (invalid_number s e)) Q
fails text s e Q p = record { given = λ b h. absurd cc; told = λ x h. (let same : invalid_number s e ≡ x = cc in rw (← same) (record { within = p.1; forward = p.0 })) }

pub after : {A B : Type 0} (text : List ℕ) (r : Result A Fault) (f : A → Result B Fault) (P : A → Type 0) (Q : B → Type 0) → Reads text r P → ((a : A) → P a → Reads text (f a) Q) → Reads text (r >>= f) Q
after text r f P Q h g = grind (arith, nat_tests, common_steps)

choice : {A : Type 0} (text : List ℕ) (c : Bool) (x y : Result A Fault) (Q : A → Type 0) → (c ≡ true → Reads text x Q) → (c ≡ false → Reads text y Q) → Reads text (if c then x else y) Q
choice text c x y Q h g = grind (arith, nat_tests, common_steps)

weaker : {A : Type 0} (text : List ℕ) (r : Result A Fault) (P Q : A → Type 0) → Reads text r P → ((a : A) → P a → Q a) → Reads text r Q
weaker text r P Q h g = record { given = λ a e. g a (h.given a e); told = h.told }

some_or : {A B : Type 0} (text : List ℕ) (f : A → Result B Fault) (o : Option A) (r : Result B Fault) (Q : B → Type 0) → ((a : A) → o ≡ Some a → Reads text (f a) Q) → (o ≡ None → Reads text r Q) → Reads text (option_map_or f o r) Q
some_or text f o r Q h g = grind (arith, nat_tests, common_steps)

-- ---- digits

-- a piece from `start` to `end`, which is a run or the end of one, and the digits in it, which begin at `from`
record Piece (text : List ℕ) (start from end : ℕ) : Type 0 where
  forward : start ≤ from
  to : from ≤ end
  within : end ≤ length text
  last : is_keylike (get_or text end 0) ≡ false

-- digits end before a byte that belongs to no run
pub digits_to : (radix : ℕ) (text : List ℕ) (i j b : ℕ) → Digits radix text i j → i ≤ b → is_keylike (get_or text b 0) ≡ false → j ≤ b
digits_to radix text i j b d g n = grind (arith, figure_keylike)

abbrev DigitsTo : ℕ → List ℕ → ℕ → ℕ → ℕ → Type 0
DigitsTo radix text from end m = Digits radix text from m × (from < m) × (m ≤ end)

digits_reads : (radix : ℕ) (text : List ℕ) (start from end : ℕ) → Piece text start from end → Reads text (digits_end radix text start from end) (DigitsTo radix text from end)
unfolding digits_end
digits_reads radix text start from end p = record {
  given = λ j h. (let d = digits_sound radix text start from end j h in (d, digits_on radix text from j d, digits_to radix text from j end d p.to p.last));
  told = λ e h. grind (arith, nat_tests);
}

-- ---- the integer part

abbrev PartTo : List ℕ → ℕ → ℕ → ℕ → Type 0
PartTo text from end m = UnsignedDecimal text from m × (from < m) × (m ≤ end)

leads : (text : List ℕ) (from m : ℕ) → from < m → (get_or text from 0 == 48 && nat_lt (from + 1) m) ≡ false → get_or text from 0 ≡ 48 → m ≡ from + 1
leads text from m l c z = grind (arith, ltb-false)

part_reads : (text : List ℕ) (start from end : ℕ) → Piece text start from end → Reads text (integer_part text start from end) (PartTo text from end)
unfolding integer_part
part_reads text start from end p =
    let w = p.within in
    after text (digits_end 10 text start from end) _ (DigitsTo 10 text from end) _ (digits_reads 10 text start from end p)
    (λ m d. choice text (get_or text from 0 == 48 && nat_lt (from + 1) m) _ _ _
    (λ c. fails text (if get_or text (from + 1) 0 == 95 then from + 2 else from + 1) end _ (grind (arith, nat_tests, d)))
    (λ c. done text m _ (record { digits = d.0; leading = leads text from m d.1 c }, d.1, d.2)))

-- ---- exponents

-- what is read up to j has this form, and its run ends there
abbrev Whole : List ℕ → (ℕ → Type 0) → ℕ → Type 0
Whole text Q j = Q j × (is_keylike (get_or text j 0) ≡ false)

exponent_digits_reads : (text : List ℕ) (a b start from end : ℕ) → Placed text a b → Piece text start from end
    → Reads text (exponent_digits text a b start from end) (Whole text (Digits 10 text from))
unfolding exponent_digits
exponent_digits_reads text a b start from end q p =
    after text (digits_end 10 text start from end) _ (DigitsTo 10 text from end) _ (digits_reads 10 text start from end p)
    (λ m d. choice text (nat_lt m end) _ _ _ (λ c. fails text a b _ q)
    (λ c. done text end _ (let e : m ≡ end = omega (arith, d.2, ltb-false m end c) in (rw e at d.0, p.last))))

exponent_reads : (text : List ℕ) (a b letter end : ℕ) → Placed text a b → is_exponent (get_or text letter 0) ≡ true → letter < end → IsRun text letter end
    → Reads text (exponent text a b letter end) (Whole text (Exponent text letter))
unfolding exponent
exponent_reads text a b letter end q x l r =
    choice text (nat_lt (letter + 1) end) _ _ _
    (λ c. (
    let s = sign_on text (letter + 1) in
    let o = ltb-true (letter + 1) end c in
    weaker text (exponent_digits text a b (letter + 1) (after_sign text (letter + 1)) end) (Whole text (Digits 10 text (after_sign text (letter + 1)))) _
    (exponent_digits_reads text a b (letter + 1) (after_sign text (letter + 1)) end q (record { forward = s.0; to = omega arith; within = r.within; last = r.last }))
    (λ j d. (record { letter = x; digits = d.0 }, d.1))))
    (λ c. choice text (not (get_or text end 0 == 43)) _ _ _ (λ n. fails text a b _ q)
    (λ n. choice text (run_end text (end + 1) == end + 1) _ _ _ (λ y. fails text a b _ q)
    (λ y. (
    let e : letter + 1 ≡ end = omega (arith, ltb-false (letter + 1) end c) in
    let plus : (get_or text end 0 == 43) ≡ true = not-false (get_or text end 0 == 43) n in
    let s : after_sign text (letter + 1) ≡ end + 1 = rw e (after_plus_sign text end (byte_is (get_or text end 0) 43 plus)) in
    let k : end < length text = here (λ c. c == 43) text end refl plus in
    let t = run_passes text (end + 1) (omega arith) in
    weaker text (exponent_digits text a b (end + 1) (end + 1) (run_end text (end + 1))) (Whole text (Digits 10 text (end + 1))) _
    (exponent_digits_reads text a b (end + 1) (end + 1) (run_end text (end + 1)) q (record { forward = omega arith; to = t.forward; within = t.within; last = t.last }))
    (λ j d. (record { letter = x; digits = rw s d.0 }, d.1))))))

-- ---- fractions

abbrev FractionTo : List ℕ → ℕ → ℕ → Type 0
FractionTo text b j = (m : ℕ) × Fraction text b m × ((j ≡ m) ⊎ Exponent text m j)

fraction_reads : (text : List ℕ) (i a b : ℕ) → i ≤ a → Placed text a b → get_or text b 0 ≡ 46 → Reads text (fraction text i a b) (Whole text (FractionTo text b))
unfolding fraction
fraction_reads text i a b f q p =
    let k : b < length text = here (λ c. c == 46) text b refl (rw p refl) in
    let r = run_passes text (b + 1) (omega arith) in
    let e : ℕ = run_end text (b + 1) in
    let w = r.within in
    choice text (e == b + 1) _ _ _ (λ c. fails text i (b + 1) _ (omega (arith, q.0), omega (arith, q.0)))
    (λ c. after text (digits_end 10 text (b + 1) (b + 1) e) _ (DigitsTo 10 text (b + 1) e) _
    (digits_reads 10 text (b + 1) (b + 1) e (record { forward = omega arith; to = r.forward; within = w; last = r.last }))
    (λ m d. choice text (m == e) _ _ _
    (λ h. done text m _ ((m, record { point = p; digits = d.0 }, inl refl), rw (byte_is m e h) r.last))
    (λ h. choice text (is_exponent (get_or text m 0)) _ _ _
    (λ x. (
    let l : m < e = elim (cases_lt m e) [ inl y ↦ y | inr g ↦ let s : m ≡ e = omega (arith, d.2) in absurd (eqb-false m e h s) ] in
    weaker text (exponent text a b m e) (Whole text (Exponent text m)) _
    (exponent_reads text a b m e q x l (passes_on text (b + 1) m e r (omega (arith, d.1)) (omega arith)))
    (λ j y. ((m, record { point = p; digits = d.0 }, inr y.0), y.1))))
    (λ x. fails text a b _ q))))

-- ---- integers

pub signed_sound : (negative : Bool) (m : ℕ) (n : ℤ) → signed negative m ≡ Some n → IsSigned negative m n
unfolding signed
signed_sound negative m n h = grind (arith, nat_tests, common_steps)

integer_reads : (radix : ℕ) (text : List ℕ) (negative : Bool) (start from end : ℕ) → Placed text start end
    → Reads text (spec.integer radix text negative start from end) (IsSigned negative (magnitude radix text from end))
unfolding spec.integer
integer_reads radix text negative start from end q = grind (arith, signed_sound)

radix_reads : (radix : ℕ) (text : List ℕ) (start end : ℕ) → Piece text start start end
    → Reads text (radix_integer radix text start end) (λ n. Digits radix text start end × IsSigned false (magnitude radix text start end) n)
unfolding radix_integer
radix_reads radix text start end p =
    let t = p.to in
    let w = p.within in
    after text (digits_end radix text start start end) _ (DigitsTo radix text start end) _ (digits_reads radix text start start end p)
    (λ m d. choice text (nat_lt m end) _ _ _ (λ c. fails text start end _ (t, omega arith))
    (λ c. (let e : m ≡ end = omega (arith, d.2, ltb-false m end c) in weaker text _ _ _ (integer_reads radix text false start start end (t, omega arith)) (λ n s. (rw e at d.0, s)))))

-- ---- numbers without a prefix

-- a number begins at i, and its first run is from a to b
pub record First (text : List ℕ) (i a b : ℕ) : Type 0 where
  pub forward : i ≤ a
  pub some : a < b
  pub run : IsRun text a b
  pub sign : after_sign text i ≡ after_sign text a
  pub negative : is_negative text i ≡ is_negative text a
  pub prefixed : (radix : ℕ) → radix_at text a ≡ Some radix → a ≡ i

-- what is read at i
abbrev pub Spelled : List ℕ → ℕ → Numeral × ℕ → Type 0
Spelled text i p = IsNumeral text i p.1 p.0

decimal_reads : (text : List ℕ) (i a b : ℕ) → First text i a b → Reads text (decimal text i a b) (Spelled text i)
unfolding decimal
decimal_reads text i a b g =
    let l = g.some in
    let r = g.run in
    let w = r.within in
    let s = sign_on text a in
    let q : Placed text a b = (omega arith, omega arith) in
    after text (integer_part text a (after_sign text a) b) _ (PartTo text (after_sign text a) b) _
    (part_reads text a (after_sign text a) b (record { forward = s.0; to = omega arith; within = w; last = r.last }))
    (λ m u. (
    let v : UnsignedDecimal text (after_sign text i) m = rw g.sign u.0 in
    choice text (nat_lt m b) _ _ _
    (λ c. choice text (is_exponent (get_or text m 0)) _ _ _
    (λ x. after text (exponent text a b m b) _ (Whole text (Exponent text m)) _
    (exponent_reads text a b m b q x (ltb-true m b c) (passes_on text a m b r (omega (arith, u.1)) u.2))
    (λ j y. done text (numerals.Finite, j) (Spelled text i) (record { integer_end = m; integer_part = v; rest = inl y.0; ends = y.1 }, refl)))
    (λ x. fails text a b _ q))
    (λ c. (
    let e : m ≡ b = omega (arith, u.2, ltb-false m b c) in
    let t : UnsignedDecimal text (after_sign text i) b = rw e at v in
    choice text (get_or text b 0 == 46) _ _ _
    (λ p. after text (fraction text i a b) _ (Whole text (FractionTo text b)) _
    (fraction_reads text i a b g.forward q (byte_is (get_or text b 0) 46 p))
    (λ j y. done text (numerals.Finite, j) (Spelled text i) (record { integer_end = b; integer_part = t; rest = inr y.0; ends = y.1 }, refl)))
    (λ p. after text (spec.integer 10 text (is_negative text a) a (after_sign text a) b) _ (IsSigned (is_negative text a) (magnitude 10 text (after_sign text a) b)) _
    (integer_reads 10 text (is_negative text a) a (after_sign text a) b q)
    (λ n h. done text (numerals.Integer n, b) (Spelled text i) (inl (record { digits = t; ends = stands_alone text b r.last p; value = rw (g.sign, g.negative) h }))))))))

-- ---- inf and nan

special_sound : (negative : Bool) (word : List ℕ) (n : Numeral) → special negative word ≡ Some n
    → ((n ≡ numerals.Infinite negative) × (word ≡ codes "inf")) ⊎ ((n ≡ numerals.NotANumber negative) × (word ≡ codes "nan"))
unfolding special
special_sound negative word n h = grind (arith, bool_cases, bytes_eq-Decides)

letters : (text : List ℕ) (i a b : ℕ) (n : Numeral) → First text i a b → (get_or text b 0 == 46) ≡ false → special (is_negative text a) (slice_range text (after_sign text a) b) ≡ Some n → Spelled text i (n, b)
letters text i a b n g p h =
    let goes = stands_alone text b g.run.last p in
    elim (special_sound (is_negative text a) (slice_range text (after_sign text a) b) n h) [ inl x ↦ grind (arith, slice_some) | inr x ↦ grind (arith, slice_some) ]

special_reads : (text : List ℕ) (i a b : ℕ) (n : Numeral) → First text i a b → special (is_negative text a) (slice_range text (after_sign text a) b) ≡ Some n
    → Reads text (special_end text i a b n) (Spelled text i)
unfolding special_end
special_reads text i a b n g h = grind (arith, choice, letters, not-true, fails)

-- ---- prefixes

pub zero_first : (text : List ℕ) (i radix : ℕ) → radix_at text i ≡ Some radix → get_or text i 0 ≡ 48
zero_first text i radix h = elim (bool_cases (get_or text i 0 == 48)) [ inl z ↦ byte_is (get_or text i 0) 48 z | inr n ↦ let e : None ≡ Some radix = rw n at h in absurd cc ]

-- not a letter of a prefix
abbrev pub NoLetter : ℕ → Type 0
NoLetter c = ((c == 120) ≡ false) × ((c == 111) ≡ false) × ((c == 98) ≡ false)

pub no_prefix : (text : List ℕ) (i : ℕ) → (get_or text i 0 ≡ 48 → NoLetter (get_or text (i + 1) 0)) → radix_at text i ≡ None
no_prefix text i h = elim (bool_cases (get_or text i 0 == 48)) [ inl z ↦ let n = h (byte_is (get_or text i 0) 48 z) in rw (z, n.0, n.1, n.2) refl | inr n ↦ rw n refl ]

pub keylike_letter : (c : ℕ) → is_keylike c ≡ false → NoLetter c
keylike_letter c k = grind arith

pub prefix_some : (text : List ℕ) (a b radix : ℕ) → IsRun text a b → a < b → radix_at text a ≡ Some radix → a + 2 ≤ b
prefix_some text a b radix r l h = grind (arith, nat_tests, r.last)

-- ---- numbers

unsigned_reads : (text : List ℕ) (i a b : ℕ) → First text i a b → Reads text (unsigned text i a b) (Spelled text i)
unfolding unsigned
unsigned_reads text i a b g =
    some_or text _ (radix_at text a) _ _
    (λ radix h. (
    let o = prefix_some text a b radix g.run g.some h in
    let same : a ≡ i = g.prefixed radix h in
    after text (radix_integer radix text (a + 2) b) _ (λ n. Digits radix text (a + 2) b × IsSigned false (magnitude radix text (a + 2) b) n) _
    (radix_reads radix text (a + 2) b (record { forward = omega arith; to = o; within = g.run.within; last = g.run.last }))
    (λ n d. done text (numerals.Integer n, b) (Spelled text i)
    (inr (record { radix = radix; prefix = rw (← same) h; digits = rw (← same) d.0; ends = g.run.last; value = rw (← same) d.1 })))))
    (λ h. some_or text (special_end text i a b) (special (is_negative text a) (slice_range text (after_sign text a) b)) _ _
    (λ n e. special_reads text i a b n g e) (λ e. decimal_reads text i a b g))

run_some : (text : List ℕ) (i : ℕ) → is_keylike (get_or text i 0) ≡ true → i < run_end text i
run_some text i k = let w = here is_keylike text i refl k in let r = run_passes text i (omega arith) in grind arith

pub first_plain : (text : List ℕ) (i : ℕ) → is_keylike (get_or text i 0) ≡ true → First text i i (run_end text i)
first_plain text i k = record { forward = omega arith; some = run_some text i k; run = run_passes text i (omega (arith, here is_keylike text i refl k)); sign = refl; negative = refl; prefixed = λ radix h. refl }

pub first_after : (text : List ℕ) (i : ℕ) → get_or text i 0 ≡ 43 → is_keylike (get_or text (i + 1) 0) ≡ true → (get_or text (i + 1) 0 == 45) ≡ false → radix_at text (i + 1) ≡ None → First text i (i + 1) (run_end text (i + 1))
first_after text i p k m n =
    let w = here is_keylike text (i + 1) refl k in
    record {
      forward = omega arith;
      some = run_some text (i + 1) k;
      run = run_passes text (i + 1) (omega arith);
      sign = grind (arith, nat_tests);
      negative = rw (p, m) refl;
      prefixed = λ radix h. grind (arith, n);
    }

-- a digit, a letter, a dash, an underscore or a plus sign
abbrev pub Starts : List ℕ → ℕ → Type 0
Starts text i = (is_keylike (get_or text i 0) || get_or text i 0 == 43) ≡ true

-- a number is read only where it is spelled
pub numeral_reads : (text : List ℕ) (i : ℕ) → Starts text i → Reads text (numeral text i) (Spelled text i)
unfolding numeral
numeral_reads text i begins =
    choice text (not (get_or text i 0 == 43)) _ _ _
    (λ c. unsigned_reads text i i (run_end text i) (first_plain text i (grind (arith, nat_tests, common_steps))))
    (λ c. (
    let plus : (get_or text i 0 == 43) ≡ true = not-false (get_or text i 0 == 43) c in
    let l : i < length text = here (λ c. c == 43) text i refl plus in
    let r = run_passes text (i + 1) (omega arith) in
    let f = r.forward in
    choice text (run_end text (i + 1) == i + 1) _ _ _ (λ x. fails text (i + 1) (i + 1) _ (omega arith, omega arith))
    (λ x. choice text (get_or text (i + 1) 0 == 45 || is_some (radix_at text (i + 1))) _ _ _ (λ y. fails text i (run_end text (i + 1)) _ (omega arith, omega arith))
    (λ y. (
    let o : i + 1 < run_end text (i + 1) = elim (cases_lt (i + 1) (run_end text (i + 1))) [ inl z ↦ z | inr z ↦ let e : run_end text (i + 1) ≡ i + 1 = omega arith in absurd (eqb-false (run_end text (i + 1)) (i + 1) x e) ] in
    let q = or_parts (get_or text (i + 1) 0 == 45) (is_some (radix_at text (i + 1))) y in
    unsigned_reads text i (i + 1) (run_end text (i + 1))
    (first_after text i (byte_is (get_or text i 0) 43 plus) (r.passes (i + 1) (omega arith) o) q.0 (grind (arith, nat_tests, common_steps))))))))

-- ---- where a number ends

pub word_keylike : (text word : List ℕ) (k j : ℕ) → slice_range text k j ≡ word → list_all is_keylike word ≡ true → j ≤ length text → (l : ℕ) → k ≤ l → l < j → is_keylike (get_or text l 0) ≡ true
word_keylike text word k j e h w l a b = grind (arith, range_at, range_length, bool_cases, false≢true, list_all_at)

pub word_first : (text word : List ℕ) (k j : ℕ) → k < j → slice_range text k j ≡ word → get_or text k 0 ≡ get_or word 0 0
word_first text word k j l e = grind (arith, range_at)

-- something begins at i, and its last byte belongs to a run
record Ended (text : List ℕ) (i j : ℕ) : Type 0 where
  on : i < j
  last : is_keylike (get_or text (j - 1) 0) ≡ true

digits_ended : (radix : ℕ) (text : List ℕ) (i k j : ℕ) → i ≤ k → Digits radix text k j → Ended text i j
digits_ended radix text i k j f d = let o = digits_on radix text k j d in grind (arith, figure_keylike radix (get_or text (j - 1) 0))

rest_ended : (text : List ℕ) (i m j : ℕ) → i ≤ m → Exponent text m j ⊎ FractionTo text m j → Ended text i j
rest_ended text i m j f (inl x) = let s = sign_on text (m + 1) in digits_ended 10 text i (after_sign text (m + 1)) j (omega arith) x.digits
rest_ended text i m j f (inr (q, y, inl e)) = rw e (digits_ended 10 text i (m + 1) q (omega arith) y.digits)
rest_ended text i m j f (inr (q, y, inr x)) = let o = digits_on 10 text (m + 1) q y.digits in let s = sign_on text (q + 1) in digits_ended 10 text i (after_sign text (q + 1)) j (omega arith) x.digits

word_ended : (word text : List ℕ) (i j : ℕ) → list_all is_keylike word ≡ true → SpecialFloat word text i j → Ended text i j
word_ended word text i j h f =
    let s = sign_on text i in
    record { on = omega (arith, f.some); last = word_keylike text word (after_sign text i) j f.letters h f.within (j - 1) (omega (arith, f.some)) (omega (arith, f.some)) }

number_ended : (s : Scalar) (text : List ℕ) (i j : ℕ) → IsNumber s text i j → Ended text i j
number_ended (integer n) text i j (inl d) = digits_ended 10 text i (after_sign text i) j (sign_on text i).0 d.digits.digits
number_ended (integer n) text i j (inr x) = digits_ended x.radix text i (i + 2) j (omega arith) x.digits
number_ended (float (finite digits)) text i j (f, c) =
    let o = digits_on 10 text _ _ f.integer_part.digits in rest_ended text i f.integer_end j (omega (arith, (sign_on text i).0)) f.rest
number_ended (float (infinite b)) text i j (f, c) = word_ended (codes "inf") text i j refl f
number_ended (float (not_a_number b)) text i j (f, c) = word_ended (codes "nan") text i j refl f
number_ended (text_scalar x) text i j h = absurd h
number_ended (boolean x) text i j h = absurd h
number_ended (datetime x) text i j h = absurd h

pub number_on : (s : Scalar) (text : List ℕ) (i j : ℕ) → IsNumber s text i j → (i ≤ j) × (j ≤ length text)
number_on s text i j h = grind (arith, number_ended, here)

pub float_on : (text : List ℕ) (i j : ℕ) → FloatLiteral text i j → (i < j) × (j ≤ length text)
float_on text i j f = grind (arith, number_ended, number_on)

-- the end of a number is a character boundary
pub number_further : (s : Scalar) (text : List ℕ) (i j : ℕ) → IsUtf8 text → IsNumber s text i j → Further text i j
number_further s text i j u h = grind (arith, number_ended, after_ascii, here, keylike_ascii)

-- ---- what the code returns

pub number_advances : (n : Numeral) (text : List ℕ) (i j : ℕ) → IsUtf8 text → Starts text i → numeral text i ≡ Ok (n, j) → Further text i j
number_advances n text i j u b h = number_further (scalar_of n (slice_range text i j)) text i j u ((numeral_reads text i b).given (n, j) h)
