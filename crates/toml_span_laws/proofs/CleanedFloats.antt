-- The stored text of a float is itself a spelling of that float.
use Rattle.toml_span_lex.proofs.Common.{◌≡◌, ℕ, zero, suc, ◌+◌, ◌-◌, ◌<◌, ◌≤◌, ◌⊎◌, Bool, true, false, cond, List, [], ◌∷◌, ◌++◌, map, filter, length, get_or, drop, arith, inl, inr, sym, ◌∙◌, refl, ap, subst, length-append, length-take, length-drop, ◌==◌, ◌||◌, not, slice_range, or_cases, false_from_ne_true, get_or_past, get_or-take, map-append, drop_at, filter-append, nat_tests, common_steps}
use Rattle.std.proofs.lemmas.Bool.{eqb-true}
use Rattle.std.proofs.lemmas.List.{get_or-drop}
use Rattle.toml_span_lex.proofs.PieceLemmas.{slice_join}
use Rattle.toml_span_tree.specs.Node.{float, finite}
use Rattle.toml_span_read.specs.Numbers.{Digits, Exponent, Fraction, FloatLiteral}
use Rattle.toml_span_read.specs.Numerals.{is_digit_in, is_figure, after_sign, is_exponent, cleaned}
use Rattle.toml_span_read.proofs.NumberLemmas.{clash, sign_on, digits_on, slice_cons}
use Rattle.toml_span_read.specs.Again.{IsFloatText}
use Rattle.toml_span_read.proofs.NumbersMove.{Plain, plain_in}
use Rattle.toml_span_read.proofs.Undated.{no_date}
use Rattle.toml_span_read.proofs.Parts.{Part, same_part, here, byte_at, empty_range, range, whole}

-- ---- what storing changes

abbrev kept : ℕ → Bool
kept c = not (c == 43 || c == 95)

abbrev capital : ℕ → ℕ
capital c = cond (c == 101) 69 c

-- one byte of the stored text
cleaned_kept : (c : ℕ) (cs : List ℕ) → kept c ≡ true → cleaned (c ∷ cs) ≡ capital c ∷ cleaned cs
cleaned_kept c cs h = rw h refl

pub cleaned_twice : (xs : List ℕ) → cleaned (cleaned xs) ≡ cleaned xs
cleaned_twice [] = refl
cleaned_twice (c ∷ cs) = grind (arith, nat_tests, common_steps, cleaned_twice cs)

-- ---- digits

digit_other : (c k : ℕ) → is_digit_in 10 c ≡ true → is_digit_in 10 k ≡ false → (c == k) ≡ false
digit_other c k h n = false_from_ne_true (c == k) (λ e. clash (is_digit_in 10) c k h (eqb-true c k e) n)

digit_kept : (c : ℕ) → is_digit_in 10 c ≡ true → (kept c ≡ true) × (capital c ≡ c)
digit_kept c h = (rw (digit_other c 43 h refl, digit_other c 95 h refl) refl, rw (digit_other c 101 h refl) refl)

first_and : (c : ℕ) (ds : List ℕ) → is_digit_in 10 c ≡ true → ((k : ℕ) → k < length ds → is_digit_in 10 (get_or ds k 0) ≡ true) → (k : ℕ) → k < suc (length ds) → is_digit_in 10 (get_or (c ∷ ds) k 0) ≡ true
first_and c ds digit more zero l = digit
first_and c ds digit more (suc k) l = more k (omega arith)

cleaned_digits : (xs : List ℕ) → ((k : ℕ) → k < length xs → is_figure 10 (get_or xs k 0) ≡ true) → (k : ℕ) → k < length (cleaned xs) → is_digit_in 10 (get_or (cleaned xs) k 0) ≡ true
cleaned_digits [] h k l = absurd (omega arith)
cleaned_digits (c ∷ cs) h k l =
    let more = cleaned_digits cs (λ n m. h (suc n) (omega arith)) in
    elim (or_cases (is_digit_in 10 c) (c == 95) (h 0 (omega arith))) [
      | inl digit ↦
          let d = digit_kept c digit in
          let e : cleaned (c ∷ cs) ≡ c ∷ cleaned cs = cleaned_kept c cs d.0 ∙ ap (λ x. x ∷ cleaned cs) d.1 in
          subst (λ (l : List ℕ). is_digit_in 10 (get_or l k 0) ≡ true) (sym e) (first_and c (cleaned cs) digit more k (omega (arith, ap length e)))
      | inr low ↦ let e : c ≡ 95 = eqb-true c 95 low in rw e (more k (rw e at l))
    ]

-- digits from a to b, as they are stored
record Cleaned (text : List ℕ) (a b : ℕ) : Type 0 where
  plain : Plain (cleaned (slice_range text a b))
  first : get_or (cleaned (slice_range text a b)) 0 0 ≡ get_or text a 0
  one : b ≡ a + 1 → length (cleaned (slice_range text a b)) ≡ 1

clean_digits : (text : List ℕ) (a b : ℕ) → Digits 10 text a b → Cleaned text a b
clean_digits text a b h =
    let w = h.run.within in
    let l = digits_on 10 text a b h in
    let d = digit_kept (get_or text a 0) h.begins in
    let e : cleaned (slice_range text a b) ≡ get_or text a 0 ∷ cleaned (slice_range text (a + 1) b) =
    ap cleaned (slice_cons text a b l w) ∙ (cleaned_kept (get_or text a 0) (slice_range text (a + 1) b) d.0 ∙ ap (λ x. x ∷ cleaned (slice_range text (a + 1) b)) d.1) in
    record {
      plain = record {
        some = omega (arith, ap length e);
        digits = cleaned_digits (slice_range text a b)
            (λ k x. (let n = length-take (b - a) (drop a text) in let m = length-drop a text in
            rw (get_or-take (b - a) (drop a text) k 0 (omega arith), get_or-drop a text k 0) (h.run.passes (a + k) (omega arith) (omega arith))));
      };
      first = ap (λ (x : List ℕ). get_or x 0 0) e;
      one = λ one. (let none : cleaned (slice_range text (a + 1) b) ≡ [] = rw (one, empty_range text (a + 1)) refl in ap length e ∙ (rw none refl));
    }

-- ---- signs

abbrev IsSign : List ℕ → Type 0
IsSign s = (s ≡ []) ⊎ (s ≡ 45 ∷ [])

one_byte : (text : List ℕ) (a : ℕ) → a < length text → slice_range text a (a + 1) ≡ get_or text a 0 ∷ []
one_byte text a l = slice_cons text a (a + 1) (omega arith) (omega arith) ∙ (rw (empty_range text (a + 1)) refl)

clean_sign : (text : List ℕ) (a : ℕ) → a < length text → IsSign (cleaned (slice_range text a (after_sign text a)))
clean_sign text a l = grind (arith, nat_tests, common_steps)

-- ---- the stored text, unchanged

-- after a sign, if there is one, a digit
signed_in : {text rest : List ℕ} {i j : ℕ} (s : List ℕ) → IsSign s → Part text s rest i j → is_digit_in 10 (get_or text j 0) ≡ true → after_sign text i ≡ j
signed_in s h g other = grind (arith, nat_tests, common_steps)

-- a letter or a dot, which is kept
abbrev Mark : ℕ → Type 0
Mark c = (is_exponent c ≡ true) ⊎ (c ≡ 46)

letter_kept : (c : ℕ) → is_exponent c ≡ true → (kept c ≡ true) × (capital c ≡ 69)
letter_kept c h = grind (arith, nat_tests, common_steps)

mark_kept : (c : ℕ) → Mark c → (kept c ≡ true) × (is_figure 10 (capital c) ≡ false)
mark_kept c h = grind (arith, nat_tests, common_steps)

exponent_on : (text : List ℕ) (a b : ℕ) → Exponent text a b → a < b
exponent_on text a b h = omega (arith, (sign_on text (a + 1)).0, digits_on 10 text (after_sign text (a + 1)) b h.digits)

fraction_on : (text : List ℕ) (a b : ℕ) → Fraction text a b → a < b
fraction_on text a b h = omega (arith, digits_on 10 text (a + 1) b h.digits)

abbrev Rest : List ℕ → ℕ → ℕ → Type 0
Rest text a b = Exponent text a b ⊎ ((m : ℕ) × Fraction text a m × ((b ≡ m) ⊎ Exponent text m b))

rest_on : (text : List ℕ) (a b : ℕ) → Rest text a b → (a < b) × Mark (get_or text a 0)
rest_on text a b h = grind (arith, nat_tests, common_steps, exponent_on, fraction_on)

module _ (text : List ℕ) (i j : ℕ) (fits : j ≤ length text) where
  abbrev Clean : ℕ → ℕ → List ℕ
  Clean a b = cleaned (slice_range text a b)

  -- the offset in the stored text of the byte at m
  abbrev To : ℕ → ℕ
  To m = length (Clean i m)

  join : (a m b : ℕ) → a ≤ m → m ≤ b → Clean a b ≡ Clean a m ++ Clean m b
  join a m b o l =
      ap cleaned (sym (slice_join text a m b o l))
      ∙ (ap (map capital) (filter-append kept (slice_range text a m) (slice_range text m b)) ∙ map-append capital (filter kept (slice_range text a m)) _)

  split : (m n : ℕ) → i ≤ m → m ≤ n → n ≤ j → Part (Clean i j) (Clean m n) (Clean n j) (To m) (To n)
  split m n o l u = record {
    is = ap (drop (To m)) (join i m j o (omega arith) ∙ ap (λ (x : List ℕ). Clean i m ++ x) (join m n j l u)) ∙ drop_at (Clean i m) (Clean m n ++ Clean n j) (To m) refl;
    on = omega (arith, ap length (join i m n o l), length-append (Clean i m) (Clean m n));
    all = omega (arith, ap length (join i n j (omega arith) u), length-append (Clean i n) (Clean n j));
  }

  -- a byte that is kept
  byte : (m : ℕ) → i ≤ m → m < j → kept (get_or text m 0) ≡ true → (get_or (Clean i j) (To m) 0 ≡ capital (get_or text m 0)) × (To (m + 1) ≡ To m + 1)
  byte m o l k =
      let e : Clean m (m + 1) ≡ capital (get_or text m 0) ∷ [] = ap cleaned (one_byte text m (omega arith)) ∙ cleaned_kept (get_or text m 0) [] k in
      let p = same_part (capital (get_or text m 0) ∷ []) e (split m (m + 1) o (omega arith) (omega arith)) in
      (here (capital (get_or text m 0)) [] p, p.on)

  abbrev IsEnd : ℕ → Type 0
  IsEnd n = (n ≡ j) ⊎ ((n < j) × Mark (get_or text n 0))

  off : (n : ℕ) → i ≤ n → IsEnd n → is_figure 10 (get_or (Clean n j) 0 0) ≡ false
  off n o h = grind (arith, nat_tests, common_steps, cleaned_kept, empty_range, mark_kept, slice_cons)

  digits : (m n : ℕ) → i ≤ m → n ≤ j → IsEnd n → Digits 10 text m n → Digits 10 (Clean i j) (To m) (To n)
  digits m n o u e h = let l = digits_on 10 text m n h in plain_in (Clean m n) (clean_digits text m n h).plain (off n (omega arith) e) (split m n o (omega arith) u)

  signed : (m n : ℕ) → i ≤ m → n ≤ j → IsEnd n → Digits 10 text (after_sign text m) n → after_sign (Clean i j) (To m) ≡ To (after_sign text m)
  signed m n o u e h =
      let on = (sign_on text m).0 in
      let l = digits_on 10 text (after_sign text m) n h in
      signed_in (Clean m (after_sign text m)) (clean_sign text m (omega arith)) (split m (after_sign text m) o on (omega arith)) (digits (after_sign text m) n (omega arith) u e h).begins

  exponent : (m : ℕ) → i ≤ m → Exponent text m j → Exponent (Clean i j) (To m) (To j)
  exponent m o h =
      let on = (sign_on text (m + 1)).0 in
      let l = exponent_on text m j h in
      let k = letter_kept (get_or text m 0) h.letter in
      let b = byte m o l k.0 in
      let s = signed (m + 1) j (omega arith) (omega arith) (inl refl) h.digits in
      record { letter = rw (b.0, k.1) refl; digits = rw (sym b.1, s) (digits (after_sign text (m + 1)) j (omega arith) (omega arith) (inl refl) h.digits) }

  fraction : (m n : ℕ) → i ≤ m → n ≤ j → IsEnd n → Fraction text m n → Fraction (Clean i j) (To m) (To n)
  fraction m n o u e h =
      let l = fraction_on text m n h in
      let b = byte m o (omega arith) (rw (h.point) refl) in
      record { point = rw (b.0, h.point) refl; digits = rw (sym b.1) (digits (m + 1) n (omega arith) u e h.digits) }

  rest : (m : ℕ) → i ≤ m → Rest text m j → Rest (Clean i j) (To m) (To j)
  rest m o (inl h) = inl (exponent m o h)
  rest m o (inr (n, h, inl e)) = inr (To n, fraction m n o (omega arith) (inl (sym e)) h, inl (ap To e))
  rest m o (inr (n, h, inr x)) =
      let l = fraction_on text m n h in
      let k = exponent_on text n j x in
      inr (To n, fraction m n o (omega arith) (inr (k, inl x.letter)) h, inr (exponent n (omega arith) x))

  literal : FloatLiteral text i j → FloatLiteral (Clean i j) 0 (length (Clean i j))
  literal h =
      let on = (sign_on text i).0 in
      let b = after_sign text i in
      let e = h.integer_end in
      let l = digits_on 10 text b e h.integer_part.digits in
      let r = rest_on text e j h.rest in
      let d = clean_digits text b e h.integer_part.digits in
      let p = split b e on (omega arith) (omega arith) in
      let z : To i ≡ 0 = ap (λ (x : List ℕ). length (cleaned x)) (empty_range text i) in
      let s : after_sign (Clean i j) 0 ≡ To b = rw z at (signed i e (omega arith) (omega arith) (inr r) h.integer_part.digits) in
      let same : get_or (Clean i j) (To b) 0 ≡ get_or (Clean b e) 0 0 = first p d.plain.some in
      record {
        integer_end = To e;
        integer_part = rw s (record {
          digits = digits b e on (omega arith) (inr r) h.integer_part.digits;
          leading = λ x. (let n = d.one (h.integer_part.leading (sym d.first ∙ (sym same ∙ x))) in omega (arith, p.on));
        });
        rest = rest e (omega arith) h.rest;
        ends = rw (get_or_past (Clean i j) (length (Clean i j)) 0 (omega arith)) refl;
      }
    where
      first : {xs more : List ℕ} {k l : ℕ} → Part (Clean i j) xs more k l → 0 < length xs → get_or (Clean i j) k 0 ≡ get_or xs 0 0
      first {xs} {more} {k} p some = let on = p.on in let z : k - k ≡ 0 = omega arith in rw z at (byte_at p k (omega arith) (omega arith))

pub cleaned_spells : (text : List ℕ) (i j : ℕ) → FloatLiteral text i j → IsFloatText (finite (cleaned (slice_range text i j)))
cleaned_spells text i j h =
    let c = cleaned (slice_range text i j) in
    let spells = literal text i j (rest_within text h.integer_end j h.rest) h in
    let all : slice_range c 0 (length c) ≡ c = range (whole c) in
    let clean : c ≡ cleaned (slice_range c 0 (length c)) = sym (ap cleaned all ∙ cleaned_twice (slice_range text i j)) in
    (no_date (float (finite c)) c 0 (length c) (spells, clean) (rw (get_or_past c (length c) 0 (omega arith)) refl), (spells, clean), refl)
  where
    rest_within : (text : List ℕ) (a b : ℕ) → Rest text a b → b ≤ length text
    rest_within text a b (inl h) = h.digits.run.within
    rest_within text a b (inr (m, h, inl e)) = omega (arith, h.digits.run.within)
    rest_within text a b (inr (m, h, inr x)) = x.digits.run.within
