-- A number, or the fault of one, depends only on its bytes and the two after it.
use Rattle.toml_span_lex.proofs.Common.{◌≡◌, ℕ, ℤ, zero, suc, ◌+◌, ◌-◌, ◌<◌, ◌≤◌, ◌⊎◌, Bool, true, false, not, List, length, get_or, drop, filter, arith, inl, inr, refl, sym, ap, ◌∙◌, ◌==◌, ◌&&◌, ◌||◌, nat_lt, Option, Some, None, Ok, Err, is_some, option_map_or, ok_or, if◌then◌else◌, slice_range, codes, list_all, range_with_len, prefix_len, get_or_past, nat_tests, common_steps, cases_lt, false≢true, Result, digits_value}
use Rattle.toml_span_lex.specs.Bytes.{is_keylike, MaximalRun}
use Rattle.toml_span_lex.proofs.Unique.{run_unique}
use Rattle.toml_span_tree.specs.Node.{Scalar, text as text_scalar, integer, float, boolean, datetime, finite, infinite, not_a_number}
use Rattle.toml_span_read.specs.declared.fault.Fault.{Fault}
use Rattle.toml_span_read.specs.declared.fault.FaultKind.TheVariants as kinds
use Rattle.toml_span_read.specs.declared.numbers.Numeral.{Numeral}
use Rattle.toml_span_read.specs.declared.numbers.Numeral.TheVariants as numerals
use Rattle.toml_span_read.specs.Dates.{is_date_byte}
use Rattle.toml_span_read.specs.Numbers.{Digits, UnsignedDecimal, Exponent, Fraction, FloatLiteral, SpecialFloat, IsNumber}
use Rattle.toml_span_read.specs.Numerals as spec
use Rattle.toml_span_read.specs.Numerals.{◌>>=◌, invalid_number, is_digit_in, is_figure, magnitude, run_end, figures_end, are_digits, digits_end, after_sign, is_negative, radix_at, integer_part, signed, radix_integer, is_exponent, exponent_digits, exponent, fraction, decimal, special, special_end, unsigned, numeral, cleaned, scalar_of, number}
use Rattle.toml_span_read.proofs.NumberLemmas.{run_found, digits_on, sign_on, figure_keylike}
use Rattle.toml_span_laws.proofs.KeptBytes.{Same, test, run, range}
use Rattle.toml_span_laws.proofs.DateBytes.{keylike_dated, exponent_byte, prefix_dated}

-- ---- a number that is read

module _ {a b : List ℕ} {n : ℕ} (w : Same a b n) where
  digits : (radix i j : ℕ) → j < n → Digits radix a i j → Digits radix b i j
  digits radix i j l d =
      let some = digits_on radix a i j d in
      record {
        begins = test w (is_digit_in radix) true i (omega arith) d.begins;
        run = run w (is_figure radix) i j l d.run;
        between = λ k x y z. test w (is_digit_in radix) true (k + 1) (omega arith) (d.between k x y (w.byte k (omega arith) ∙ z));
      }

  sign : (i : ℕ) → i < n → after_sign a i ≡ after_sign b i
  sign i l = rw (w.byte i l) refl

  magnitudes : (radix i j : ℕ) → j ≤ n → magnitude radix a i j ≡ magnitude radix b i j
  magnitudes radix i j l = ap (λ (r : List ℕ). digits_value radix (filter (is_digit_in radix) r)) (range w i j l)

  part : (i j : ℕ) → j < n → UnsignedDecimal a i j → UnsignedDecimal b i j
  part i j l u =
      let some = digits_on 10 a i j u.digits in
      record { digits = digits 10 i j l u.digits; leading = λ z. u.leading (w.byte i (omega arith) ∙ z) }

  signed_part : (i j : ℕ) → j < n → UnsignedDecimal a (after_sign a i) j → UnsignedDecimal b (after_sign b i) j
  signed_part i j l u =
      let some = digits_on 10 a (after_sign a i) j u.digits in
      let on = (sign_on a i).0 in
      rw (sign i (omega arith)) at (part (after_sign a i) j l u)

  exponent_kept : (i j : ℕ) → j < n → Exponent a i j → Exponent b i j
  exponent_kept i j l x =
      let some = digits_on 10 a (after_sign a (i + 1)) j x.digits in
      let on = (sign_on a (i + 1)).0 in
      record { letter = test w is_exponent true i (omega arith) x.letter; digits = rw (sign (i + 1) (omega arith)) at (digits 10 (after_sign a (i + 1)) j l x.digits) }

  fraction_kept : (i j : ℕ) → j < n → Fraction a i j → Fraction b i j
  fraction_kept i j l x =
      let some = digits_on 10 a (i + 1) j x.digits in
      record { point = test w (λ c. c) 46 i (omega arith) x.point; digits = digits 10 (i + 1) j l x.digits }

  rest : (i j : ℕ) → j < n → Exponent a i j ⊎ ((m : ℕ) × Fraction a i m × ((j ≡ m) ⊎ Exponent a m j)) → Exponent b i j ⊎ ((m : ℕ) × Fraction b i m × ((j ≡ m) ⊎ Exponent b m j))
  rest i j l (inl x) = inl (exponent_kept i j l x)
  rest i j l (inr (m, f, inl e)) = inr (m, fraction_kept i m (omega arith) f, inl e)
  rest i j l (inr (m, f, inr x)) =
      let some = digits_on 10 a (after_sign a (m + 1)) j x.digits in
      let on = (sign_on a (m + 1)).0 in
      inr (m, fraction_kept i m (omega arith) f, inr (exponent_kept m j l x))

  literal : (i j : ℕ) → j < n → FloatLiteral a i j → FloatLiteral b i j
  literal i j l f = record {
    integer_end = f.integer_end;
    integer_part = signed_part i f.integer_end (omega (arith, rest_forward f.integer_end j f.rest)) f.integer_part;
    rest = rest f.integer_end j l f.rest;
    ends = test w is_keylike false j l f.ends;
  }
    where
      rest_forward : (m j : ℕ) → Exponent a m j ⊎ ((k : ℕ) × Fraction a m k × ((j ≡ k) ⊎ Exponent a k j)) → m ≤ j
      rest_forward m j (inl x) = omega (arith, digits_on 10 a (after_sign a (m + 1)) j x.digits, (sign_on a (m + 1)).0)
      rest_forward m j (inr (k, f, inl e)) = omega (arith, digits_on 10 a (m + 1) k f.digits, e)
      rest_forward m j (inr (k, f, inr x)) = omega (arith, digits_on 10 a (m + 1) k f.digits, digits_on 10 a (after_sign a (k + 1)) j x.digits, (sign_on a (k + 1)).0)

  special_kept : (word : List ℕ) (i j : ℕ) → j < n → SpecialFloat word a i j → SpecialFloat word b i j
  special_kept word i j l f =
      let on = (sign_on a i).0 in
      let some = f.some in
      let e = sign i (omega arith) in
      record {
        letters = rw e at (sym (range w (after_sign a i) j (omega arith)) ∙ f.letters);
        some = rw e at f.some;
        within = omega (arith, w.in_b);
        ends = test w (λ c. is_keylike c || c == 46) false j l f.ends;
      }

  negative : (i : ℕ) → i < n → is_negative a i ≡ is_negative b i
  negative i l = ap (λ c. c == 45) (w.byte i l)

  pub number_kept : (s : Scalar) (i j : ℕ) → j < n → IsNumber s a i j → IsNumber s b i j
  number_kept (integer m) i j l (inl d) =
      let some = digits_on 10 a (after_sign a i) j d.digits.digits in
      let on = (sign_on a i).0 in
      let v = d.value in
      inl (record {
        digits = signed_part i j l d.digits;
        ends = test w (λ c. is_keylike c || c == 46) false j l d.ends;
        value = rw (magnitudes 10 (after_sign a i) j (omega arith), sign i (omega arith), negative i (omega arith)) at v;
      })
  number_kept (integer m) i j l (inr x) =
      let some = digits_on x.radix a (i + 2) j x.digits in
      inr (record {
        radix = x.radix;
        prefix = rw (w.byte i (omega arith), w.byte (i + 1) (omega arith)) at x.prefix;
        digits = digits x.radix (i + 2) j l x.digits;
        ends = test w is_keylike false j l x.ends;
        value = rw (magnitudes x.radix (i + 2) j (omega arith)) at x.value;
      })
  number_kept (float (finite ds)) i j l (f, e) = (literal i j l f, e ∙ ap cleaned (range w i j (omega arith)))
  number_kept (float (infinite d)) i j l (f, e) = (special_kept (codes "inf") i j l f, e ∙ negative i (omega (arith, (sign_on a i).0, f.some)))
  number_kept (float (not_a_number d)) i j l (f, e) = (special_kept (codes "nan") i j l f, e ∙ negative i (omega (arith, (sign_on a i).0, f.some)))
  number_kept (text_scalar v) i j l h = absurd h
  number_kept (boolean d) i j l h = absurd h
  number_kept (datetime d) i j l h = absurd h

-- ---- the fault of a number

all_same : (p q : ℕ → Bool) (i n : ℕ) → ((k : ℕ) → i ≤ k → k < i + n → p k ≡ q k) → list_all p (range_with_len i n) ≡ list_all q (range_with_len i n)
all_same p q i zero h = refl
all_same p q i (suc n) h = let first = h i (omega arith) (omega arith) in let more = all_same p q (i + 1) n (λ k x y. h k (omega arith) (omega arith)) in rw (first, more) refl

figure_date : (radix c : ℕ) → is_figure radix c ≡ true → is_date_byte c ≡ true
figure_date radix c h = let k = figure_keylike radix c h in rw k refl

pub bind_given : {A B : Type 0} (r : Result A Fault) (f : A → Result B Fault) (y : B) → (r >>= f) ≡ Ok y → (x : A) × (r ≡ Ok x) × (f x ≡ Ok y)
bind_given (Ok x) f y h = (x, refl, h)
bind_given (Err x) f y h = absurd cc

module _ (a : List ℕ) (i J : ℕ) (whole : MaximalRun is_date_byte a i J) where
  -- the fault of a number that starts in i..J
  abbrev Placed : Fault → Type 0
  Placed e = (i ≤ e.span.start) × (e.span.start ≤ J) × (e.kind ≡ kinds.InvalidNumber)

  -- What is read of a is read of each text with the same bytes up to J and two more; a fault starts in i..J.
  record Walk {A : Type 0} (f : List ℕ → Result A Fault) (Q : A → Type 0) : Type 0 where
    same : (b : List ℕ) → Same a b (J + 2) → f b ≡ f a
    given : (x : A) → f a ≡ Ok x → Q x
    told : (e : Fault) → f a ≡ Err e → Placed e

  walk_ok : {A : Type 0} {Q : A → Type 0} (x : A) → Q x → Walk (λ b. Ok x) Q
  walk_ok {Q = Q} x q = record { same = λ b w. refl; given = λ y e. (let s : x ≡ y = cc in rw s at q); told = λ e h. absurd cc }

  walk_err : {A : Type 0} {Q : A → Type 0} (s e : ℕ) → i ≤ s → s ≤ J → Walk {A = A} (λ b. Err (invalid_number s e)) Q
  walk_err s e l m = record { same = λ b w. refl; given = λ y h. absurd cc; told = λ x h. (let same : invalid_number s e ≡ x = cc in rw (← same) (l, m, refl)) }

  bind_same : {A B : Type 0} (r q : Result A Fault) (f g : A → Result B Fault) → q ≡ r → ((x : A) → r ≡ Ok x → f x ≡ g x) → (q >>= f) ≡ (r >>= g)
  bind_same (Ok x) q f g e h = rw e (h x refl)
  bind_same (Err x) q f g e h = rw e refl

  bind_told : {A B : Type 0} (r : Result A Fault) (f : A → Result B Fault) (e : Fault) → (r >>= f) ≡ Err e → (r ≡ Err e) ⊎ ((x : A) × (r ≡ Ok x) × (f x ≡ Err e))
  bind_told (Ok x) f e h = inr (x, refl, h)
  bind_told (Err x) f e h = inl (let s : x ≡ e = cc in rw s refl)

  walk_bind : {A B : Type 0} {P : A → Type 0} {Q : B → Type 0} {f : List ℕ → Result A Fault} {g : List ℕ → A → Result B Fault} → Walk f P → ((x : A) → P x → Walk (λ b. g b x) Q) → Walk (λ b. f b >>= g b) Q
  walk_bind {f = f} {g = g} first each = record {
    same = λ b w. bind_same (f a) (f b) (g b) (g a) (first.same b w) (λ x e. (each x (first.given x e)).same b w);
    given = λ y e. (let (x, h, k) = bind_given (f a) (g a) y e in (each x (first.given x h)).given y k);
    told = λ e h. elim (bind_told (f a) (g a) e h) [ inl k ↦ first.told e k | inr (x, k, l) ↦ (each x (first.given x k)).told e l ];
  }

  walk_if : {A : Type 0} {Q : A → Type 0} (c : List ℕ → Bool) (x y : List ℕ → Result A Fault) → ((b : List ℕ) → Same a b (J + 2) → c b ≡ c a) → (c a ≡ true → Walk x Q) → (c a ≡ false → Walk y Q) → Walk (λ b. if c b then x b else y b) Q
  walk_if {A} {Q} c x y same this that = record {
    same = λ b w. rw (same b w) (both (c a) b w refl);
    given = λ z e. given_in (c a) z refl e;
    told = λ e h. told_in (c a) e refl h;
  }
    where
      both : (t : Bool) (b : List ℕ) → Same a b (J + 2) → c a ≡ t → (if t then x b else y b) ≡ (if t then x a else y a)
      both true b w e = (this e).same b w
      both false b w e = (that e).same b w

      given_in : (t : Bool) (z : A) → c a ≡ t → (if t then x a else y a) ≡ Ok z → Q z
      given_in true z e h = (this e).given z h
      given_in false z e h = (that e).given z h

      told_in : (t : Bool) (z : Fault) → c a ≡ t → (if t then x a else y a) ≡ Err z → Placed z
      told_in true z e h = (this e).told z h
      told_in false z e h = (that e).told z h

  -- something that is the same in all these texts
  walk_at : {A K : Type 0} {Q : A → Type 0} (k : List ℕ → K) (f : List ℕ → K → Result A Fault) → ((b : List ℕ) → Same a b (J + 2) → k b ≡ k a) → Walk (λ b. f b (k a)) Q → Walk (λ b. f b (k b)) Q
  walk_at k f same h = record { same = λ b w. rw (same b w) (h.same b w); given = h.given; told = h.told }

  walk_option : {A K : Type 0} {Q : A → Type 0} (o : List ℕ → Option K) (f : List ℕ → K → Result A Fault) (r : List ℕ → Result A Fault) → ((b : List ℕ) → Same a b (J + 2) → o b ≡ o a) → ((k : K) → o a ≡ Some k → Walk (λ b. f b k) Q) → (o a ≡ None → Walk r Q)
      → Walk (λ b. option_map_or (f b) (o b) (r b)) Q
  walk_option {A} {K} {Q} o f r same some none = walk_at o (λ b k. option_map_or (f b) k (r b)) same (by (o a) refl)
    where
      by : (k : Option K) → o a ≡ k → Walk (λ b. option_map_or (f b) k (r b)) Q
      by (Some k) e = some k e
      by None e = none e

  -- ---- places

  -- a byte that dates can have is before J
  before : (x : ℕ) → x ≤ J → is_date_byte (get_or a x 0) ≡ true → x < J
  before x l h = elim (cases_lt x J) [
    | inl k ↦ k
    | inr k ↦
        let e : x ≡ J = omega arith in
        let d : is_date_byte (get_or a J 0) ≡ true = rw e at h in
        elim (cases_lt J (length a)) [
          | inl s ↦ absurd (false≢true (sym (whole.stops s) ∙ d))
          | inr s ↦ let z : get_or a J 0 ≡ 0 = get_or_past a J 0 s in absurd (false≢true (rw z at d))
        ]
  ]

  byte_same : {A : Type 0} (p : ℕ → A) (x : ℕ) → x ≤ J + 1 → (b : List ℕ) → Same a b (J + 2) → p (get_or b x 0) ≡ p (get_or a x 0)
  byte_same p x l b w = ap p (sym (w.byte x (omega arith)))

  -- where bytes end that dates can have
  end_of : (p : ℕ → Bool) → ((c : ℕ) → p c ≡ true → is_date_byte c ≡ true) → (x : ℕ) → x ≤ J → (x ≤ x + prefix_len p (drop x a)) × (x + prefix_len p (drop x a) ≤ J)
  end_of p dates x l =
      let r = run_found p a x (omega (arith, whole.within)) in
      let m : ℕ = x + prefix_len p (drop x a) in
      (r.forward, elim (cases_lt J m) [ inl k ↦ absurd (let s = before J (omega arith) (dates _ (r.passes J l k)) in omega arith) | inr k ↦ k ])

  end_same : (p : ℕ → Bool) → ((c : ℕ) → p c ≡ true → is_date_byte c ≡ true) → (x : ℕ) → x ≤ J → (b : List ℕ) → Same a b (J + 2) → x + prefix_len p (drop x b) ≡ x + prefix_len p (drop x a)
  end_same p dates x l b w =
      let e = end_of p dates x l in
      run_unique p b x _ _ (run_found p b x (omega (arith, w.in_b))) (run w p x (x + prefix_len p (drop x a)) (omega arith) (run_found p a x (omega (arith, whole.within))))

  run_in : (x : ℕ) → x ≤ J → (x ≤ run_end a x) × (run_end a x ≤ J)
  unfolding run_end
  run_in x l = end_of is_keylike keylike_dated x l

  run_same : (x : ℕ) → x ≤ J → (b : List ℕ) → Same a b (J + 2) → run_end b x ≡ run_end a x
  unfolding run_end
  run_same x l = end_same is_keylike keylike_dated x l

  figures_in : (radix x : ℕ) → x ≤ J → (x ≤ figures_end radix a x) × (figures_end radix a x ≤ J)
  unfolding figures_end
  figures_in radix x l = end_of (is_figure radix) (figure_date radix) x l

  figures_same : (radix x : ℕ) → x ≤ J → (b : List ℕ) → Same a b (J + 2) → figures_end radix b x ≡ figures_end radix a x
  unfolding figures_end
  figures_same radix x l = end_same (is_figure radix) (figure_date radix) x l

  are_same : (radix x m : ℕ) → x ≤ m → m ≤ J → (b : List ℕ) → Same a b (J + 2) → are_digits radix b x m ≡ are_digits radix a x m
  unfolding are_digits
  are_same radix x m l k b w =
      rw (byte_same (is_digit_in radix) x (omega arith) b w, all_same (λ k. not (get_or b k 0 == 95) || is_digit_in radix (get_or b (k + 1) 0)) (λ k. not (get_or a k 0 == 95) || is_digit_in radix (get_or a (k + 1) 0)) x (m - x) (λ z u v. rw (w.byte z (omega arith), w.byte (z + 1) (omega arith)) refl)) refl

  sign_in : (x : ℕ) → x ≤ J → (x ≤ after_sign a x) × (after_sign a x ≤ J)
  sign_in x l = grind (arith, nat_tests, before x l)

  sign_same : (x : ℕ) → x ≤ J → (b : List ℕ) → Same a b (J + 2) → after_sign b x ≡ after_sign a x
  sign_same x l b w = rw (w.byte x (omega arith)) refl

  -- ---- digits

  abbrev UpTo : ℕ → ℕ → Type 0
  UpTo x m = (x ≤ m) × (m ≤ J)

  digits_walk : (radix start from end : ℕ) → i ≤ start → start ≤ from → from ≤ J → Walk (λ b. digits_end radix b start from end) (UpTo from)
  unfolding digits_end
  digits_walk radix start from end l m k =
      let f = figures_in radix from k in
      walk_if (λ b. get_or b from 0 == 95) (λ b. Err (invalid_number from end)) _ (byte_same (λ c. c == 95) from (omega arith)) (λ c. walk_err from end (omega arith) k)
      (λ c. walk_at (λ b. figures_end radix b from) (λ b z. if are_digits radix b from z then Ok z else Err (invalid_number start end)) (figures_same radix from k)
      (walk_if (λ b. are_digits radix b from (figures_end radix a from)) (λ b. Ok (figures_end radix a from)) (λ b. Err (invalid_number start end)) (are_same radix from (figures_end radix a from) f.0 f.1) (λ d. walk_ok (figures_end radix a from) f) (λ d. walk_err start end l (omega arith))))

  part_walk : (start from end : ℕ) → i ≤ start → start ≤ from → from ≤ J → Walk (λ b. integer_part b start from end) (UpTo from)
  unfolding integer_part
  part_walk start from end l m k =
      walk_bind (digits_walk 10 start from end l m k)
      (λ z u. walk_if (λ b. get_or b from 0 == 48 && nat_lt (from + 1) z) (λ b. Err (invalid_number (if get_or b (from + 1) 0 == 95 then from + 2 else from + 1) end)) (λ b. Ok z)
      (λ b w. rw (w.byte from (omega arith)) refl)
      (λ c. (let g : from + 1 < z = grind (arith, nat_tests) in
      walk_at (λ b. if get_or b (from + 1) 0 == 95 then from + 2 else from + 1) (λ b s. Err (invalid_number s end)) (λ b w. rw (w.byte (from + 1) (omega arith)) refl) (walk_err _ end (grind (arith, nat_tests)) (grind (arith, nat_tests)))))
      (λ c. walk_ok z u))

  -- ---- exponents and fractions

  abbrev Inside : ℕ → Type 0
  Inside x = (i ≤ x) × (x ≤ J)

  exponent_digits_walk : (x y start from end : ℕ) → Inside x → i ≤ start → start ≤ from → from ≤ J → end ≤ J → Walk (λ b. exponent_digits b x y start from end) (λ z. z ≤ J)
  unfolding exponent_digits
  exponent_digits_walk x y start from end p l m k e =
      walk_bind (digits_walk 10 start from end l m k) (λ z u. walk_if (λ b. nat_lt z end) (λ b. Err (invalid_number x y)) (λ b. Ok end) (λ b w. refl) (λ c. walk_err x y p.0 p.1) (λ c. walk_ok end e))

  exponent_walk : (x y letter end : ℕ) → Inside x → i ≤ letter → letter < J → Inside end → Walk (λ b. exponent b x y letter end) (λ z. z ≤ J)
  unfolding exponent
  exponent_walk x y letter end p l m e =
      let s = sign_in (letter + 1) (omega arith) in
      walk_if (λ b. nat_lt (letter + 1) end) _ _ (λ b w. refl)
      (λ c. walk_at (λ b. after_sign b (letter + 1)) (λ b z. exponent_digits b x y (letter + 1) z end) (sign_same (letter + 1) (omega arith)) (exponent_digits_walk x y (letter + 1) (after_sign a (letter + 1)) end p (omega arith) s.0 s.1 e.1))
      (λ c. walk_if (λ b. not (get_or b end 0 == 43)) (λ b. Err (invalid_number x y)) _ (byte_same (λ c. not (c == 43)) end (omega (arith, e.1))) (λ d. walk_err x y p.0 p.1)
      (λ d. (
      let plus : is_date_byte (get_or a end 0) ≡ true = plus_date end d in
      let o = before end e.1 plus in
      let r = run_in (end + 1) (omega arith) in
      walk_at (λ b. run_end b (end + 1)) (λ b z. if z == end + 1 then Err (invalid_number x y) else exponent_digits b x y (end + 1) (end + 1) z) (run_same (end + 1) (omega arith))
      (walk_if (λ b. run_end a (end + 1) == end + 1) (λ b. Err (invalid_number x y)) _ (λ b w. refl) (λ f. walk_err x y p.0 p.1) (λ f. exponent_digits_walk x y (end + 1) (end + 1) (run_end a (end + 1)) p (omega (arith, e.0)) (omega arith) (omega arith) r.1)))))
    where
      plus_date : (x : ℕ) → not (get_or a x 0 == 43) ≡ false → is_date_byte (get_or a x 0) ≡ true
      plus_date x h = grind (arith, nat_tests)

  period_date : (c : ℕ) → (c == 46) ≡ true → is_date_byte c ≡ true
  period_date c h = grind (arith, nat_tests)

  fraction_walk : (s x y : ℕ) → Inside s → Inside x → i ≤ y → y < J → Walk (λ b. fraction b s x y) (λ z. z ≤ J)
  unfolding fraction
  fraction_walk s x y p q l m =
      let r = run_in (y + 1) (omega arith) in
      walk_at (λ b. run_end b (y + 1)) (λ b e. if e == y + 1 then Err (invalid_number s (y + 1)) else digits_end 10 b (y + 1) (y + 1) e >>= (λ z. if z == e then Ok z else if is_exponent (get_or b z 0) then exponent b x y z e else Err (invalid_number x y))) (run_same (y + 1) (omega arith))
      (walk_if (λ b. run_end a (y + 1) == y + 1) (λ b. Err (invalid_number s (y + 1))) _ (λ b w. refl) (λ c. walk_err s (y + 1) p.0 p.1)
      (λ c. walk_bind (digits_walk 10 (y + 1) (y + 1) (run_end a (y + 1)) (omega arith) (omega arith) (omega arith))
      (λ z u. walk_if (λ b. z == run_end a (y + 1)) (λ b. Ok z) _ (λ b w. refl) (λ d. walk_ok z u.1)
      (λ d. walk_if (λ b. is_exponent (get_or b z 0)) _ (λ b. Err (invalid_number x y)) (byte_same is_exponent z (omega (arith, u.1)))
      (λ f. exponent_walk x y z (run_end a (y + 1)) q (omega (arith, u.0)) (before z u.1 (exponent_byte (get_or a z 0) f)) (omega (arith, r.0), r.1))
      (λ f. walk_err x y q.0 q.1)))))

  -- ---- integers

  or_walk : (o : Option ℤ) (start end : ℕ) → Inside start → Walk (λ b. ok_or o (invalid_number start end)) (λ n. Unit {0})
  or_walk (Some x) start end p = walk_ok x tt
  or_walk None start end p = walk_err start end p.0 p.1

  integer_walk : (radix : ℕ) (negative : Bool) (start from end : ℕ) → Inside start → end ≤ J → Walk (λ b. spec.integer radix b negative start from end) (λ n. Unit {0})
  unfolding spec.integer
  integer_walk radix negative start from end p l =
      walk_at (λ b. magnitude radix b from end) (λ b m. ok_or (signed negative m) (invalid_number start end)) (λ b w. sym (magnitudes w radix from end (omega arith))) (or_walk (signed negative (magnitude radix a from end)) start end p)

  radix_walk : (radix start end : ℕ) → Inside start → end ≤ J → Walk (λ b. radix_integer radix b start end) (λ n. Unit {0})
  unfolding radix_integer
  radix_walk radix start end p l =
      walk_bind (digits_walk radix start start end p.0 (omega arith) p.1)
      (λ m u. walk_if (λ b. nat_lt m end) (λ b. Err (invalid_number start end)) _ (λ b w. refl) (λ c. walk_err start end p.0 p.1) (λ c. integer_walk radix false start start end p l))

  -- ---- numbers

  abbrev EndsInside : Numeral × ℕ → Type 0
  EndsInside p = p.1 ≤ J

  finite_walk : (f : List ℕ → Result ℕ Fault) → Walk f (λ z. z ≤ J) → Walk (λ b. f b >>= (λ j. Ok (numerals.Finite, j))) EndsInside
  finite_walk f h = walk_bind h (λ z u. walk_ok (numerals.Finite, z) u)

  decimal_walk : (s x y : ℕ) → Inside s → Inside x → Inside y → Walk (λ b. decimal b s x y) EndsInside
  unfolding decimal
  decimal_walk s x y p q r =
      let o = sign_in x q.1 in
      walk_at (λ b. after_sign b x) (λ b z. integer_part b x z y >>= (λ m. if nat_lt m y then (if is_exponent (get_or b m 0) then exponent b x y m y >>= (λ j. Ok (numerals.Finite, j)) else Err (invalid_number x y)) else if get_or b y 0 == 46 then fraction b s x y >>= (λ j. Ok (numerals.Finite, j)) else spec.integer 10 b (is_negative b x) x z y >>= (λ n. Ok (numerals.Integer n, y)))) (sign_same x q.1)
      (walk_bind (part_walk x (after_sign a x) y q.0 o.0 o.1)
      (λ m u. walk_if (λ b. nat_lt m y) _ _ (λ b w. refl)
      (λ c. walk_if (λ b. is_exponent (get_or b m 0)) _ (λ b. Err (invalid_number x y)) (byte_same is_exponent m (omega (arith, u.1)))
      (λ f. finite_walk _ (exponent_walk x y m y q (omega (arith, o.0, u.0, q.0)) (before m u.1 (exponent_byte (get_or a m 0) f)) r))
      (λ f. walk_err x y q.0 q.1))
      (λ c. walk_if (λ b. get_or b y 0 == 46) _ _ (byte_same (λ c. c == 46) y (omega (arith, r.1)))
      (λ f. finite_walk _ (fraction_walk s x y p q r.0 (before y r.1 (period_date (get_or a y 0) f))))
      (λ f. walk_at (λ b. is_negative b x) (λ b z. spec.integer 10 b z x (after_sign a x) y >>= (λ n. Ok (numerals.Integer n, y))) (byte_same (λ c. c == 45) x (omega (arith, q.1)))
      (walk_bind (integer_walk 10 (is_negative a x) x (after_sign a x) y q r.1) (λ n v. walk_ok (numerals.Integer n, y) r.1))))))

  special_walk : (s x y : ℕ) (n : Numeral) → Inside s → Inside x → Inside y → Walk (λ b. special_end b s x y n) EndsInside
  unfolding special_end
  special_walk s x y n p q r =
      walk_if (λ b. not (get_or b y 0 == 46)) (λ b. Ok (n, y)) _ (byte_same (λ c. not (c == 46)) y (omega (arith, r.1))) (λ c. walk_ok (n, y) r.1)
      (λ c. (
      let o = before y r.1 (period_date (get_or a y 0) (grind (arith, nat_tests, common_steps))) in
      walk_at (λ b. run_end b (y + 1)) (λ b e. if e == y + 1 then Err (invalid_number s (y + 1)) else Err (invalid_number x y)) (run_same (y + 1) (omega arith))
      (walk_if (λ b. run_end a (y + 1) == y + 1) (λ b. Err (invalid_number s (y + 1))) (λ b. Err (invalid_number x y)) (λ b w. refl) (λ d. walk_err s (y + 1) p.0 p.1) (λ d. walk_err x y q.0 q.1))))

  radix_same : (x : ℕ) → x ≤ J → (b : List ℕ) → Same a b (J + 2) → radix_at b x ≡ radix_at a x
  radix_same x l b w = rw (w.byte x (omega arith), w.byte (x + 1) (omega arith)) refl

  prefix_dates : (x radix : ℕ) → radix_at a x ≡ Some radix → (is_date_byte (get_or a x 0) ≡ true) × (is_date_byte (get_or a (x + 1) 0) ≡ true)
  prefix_dates x radix h = let d = prefix_dated a x radix h in (d x (omega arith) (omega arith), d (x + 1) (omega arith) (omega arith))

  unsigned_walk : (s x y : ℕ) → Inside s → Inside x → Inside y → Walk (λ b. unsigned b s x y) EndsInside
  unfolding unsigned
  unsigned_walk s x y p q r =
      let o = sign_in x q.1 in
      walk_option (λ b. radix_at b x) _ _ (radix_same x q.1)
      (λ radix h. (
      let d = prefix_dates x radix h in
      let f = before x q.1 d.0 in
      let g = before (x + 1) (omega arith) d.1 in
      walk_bind (radix_walk radix (x + 2) y (omega (arith, q.0), omega arith) r.1) (λ n v. walk_ok (numerals.Integer n, y) r.1)))
      (λ h. walk_option (λ b. special (is_negative b x) (slice_range b (after_sign b x) y)) (λ b n. special_end b s x y n) (λ b. decimal b s x y)
      (λ b w. rw (sym (w.byte x (omega (arith, q.1))), sym (range w (after_sign a x) y (omega (arith, r.1)))) refl)
      (λ n e. special_walk s x y n p q r) (λ e. decimal_walk s x y p q r))

  numeral_walk : Walk (λ b. numeral b i) EndsInside
  unfolding numeral
  numeral_walk =
      let f = whole.forward in
      let r = run_in i f in
      walk_if (λ b. not (get_or b i 0 == 43)) _ _ (byte_same (λ c. not (c == 43)) i (omega arith))
      (λ c. walk_at (λ b. run_end b i) (λ b e. unsigned b i i e) (run_same i f) (unsigned_walk i i (run_end a i) (omega arith, f) (omega arith, f) r))
      (λ c. (
      let o = before i f (grind (arith, nat_tests)) in
      let q = run_in (i + 1) (omega arith) in
      walk_at (λ b. run_end b (i + 1)) (λ b e. if e == i + 1 then Err (invalid_number (i + 1) (i + 1)) else if get_or b (i + 1) 0 == 45 || is_some (radix_at b (i + 1)) then Err (invalid_number i e) else unsigned b i (i + 1) e) (run_same (i + 1) (omega arith))
      (walk_if (λ b. run_end a (i + 1) == i + 1) (λ b. Err (invalid_number (i + 1) (i + 1))) _ (λ b w. refl) (λ d. walk_err (i + 1) (i + 1) (omega arith) (omega arith))
      (λ d. walk_if (λ b. get_or b (i + 1) 0 == 45 || is_some (radix_at b (i + 1))) (λ b. Err (invalid_number i (run_end a (i + 1)))) _ (λ b w. rw (byte_same (λ c. c == 45) (i + 1) (omega arith) b w, radix_same (i + 1) (omega arith) b w) refl)
      (λ g. walk_err i (run_end a (i + 1)) (omega arith) f)
      (λ g. unsigned_walk i (i + 1) (run_end a (i + 1)) (omega arith, f) (omega arith, omega arith) (omega (arith, q.0), q.1))))))

  number_walk : Walk (λ b. number b i) (λ p. Unit {0})
  unfolding number
  number_walk = walk_bind numeral_walk (λ p l. walk_at (λ b. slice_range b i p.1) (λ b s. Ok (scalar_of p.0 s, p.1)) (λ b w. sym (range w i p.1 (omega (arith, l)))) (walk_ok _ tt))

  pub number_fault : (e : Fault) → number a i ≡ Err e → (i ≤ e.span.start) × (e.span.start ≤ J) × (e.kind ≡ kinds.InvalidNumber) × ((b : List ℕ) → Same a b (J + 2) → number b i ≡ Err e)
  number_fault e h = let p = number_walk.told e h in (p.0, p.1, p.2, λ b w. number_walk.same b w ∙ h)
