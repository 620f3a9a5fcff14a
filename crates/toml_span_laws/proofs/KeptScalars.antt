-- A value without brackets and quotes depends only on its bytes and the two after it.
use Rattle.toml_span_lex.proofs.Common.{◌≡◌, ℕ, ◌+◌, ◌<◌, ◌≤◌, ◌⊎◌, Bool, true, false, List, length, get_or, drop, arith, inl, inr, refl, sym, ◌∙◌, ◌==◌, ◌||◌, Result, Ok, Err, is_some, if◌then◌else◌, slice_range, codes, prefix_len, and-false, get_or_past, nat_tests, cases_lt, false≢true, bytes_eq, or_parts}
use Rattle.toml_span_lex.specs.Bytes.{is_keylike, MaximalRun}
use Rattle.toml_span_tree.specs.Node.{Scalar, text as text_scalar, integer, float, boolean, datetime, finite, infinite, not_a_number}
use Rattle.toml_span_read.specs.declared.fault.Fault.{Fault}
use Rattle.toml_span_read.specs.declared.fault.FaultKind.TheVariants as kinds
use Rattle.toml_span_read.specs.Data.{from_to}
use Rattle.std.specs.Char.{is_ascii_digit}
use Rattle.toml_span_read.specs.Dates.{begins_date, is_date_byte, IsCandidate}
use Rattle.toml_span_read.specs.Faults.{begins_bare, begins_number}
use Rattle.toml_span_read.specs.Numbers.{IsNumber}
use Rattle.toml_span_read.specs.Numerals.{run_end, special, number}
use Rattle.toml_span_read.specs.Read.{run_at, word, number_or_word}
use Rattle.toml_span_read.specs.Read as read
use Rattle.toml_span_tree.specs.Date.{is_date_text}
use Rattle.toml_span_read.proofs.NumberComplete.{number_complete}
use Rattle.toml_span_read.proofs.NumberLemmas.{bool_cases, run_found, run_is}
use Rattle.toml_span_read.proofs.NumberReads.{number_on}
use Rattle.toml_span_read.proofs.ReadSound.{number_sound}
use Rattle.toml_span_laws.specs.Reported.{EndsReported}
use Rattle.toml_span_laws.proofs.KeptBytes.{Same, test, run, range}
use Rattle.toml_span_laws.proofs.KeptForms.{Past, past_less, past_two, Reach, candidate}
use Rattle.toml_span_laws.proofs.KeptNumbers.{number_kept, number_fault}

-- a scalar ends at j, or what the fault reports does
abbrev pub ScalarTold : List ℕ → Result (Scalar × ℕ) Fault → ℕ → Type 0
ScalarTold text (Ok (s, m)) j = j ≡ m
ScalarTold text (Err e) j = EndsReported text e j

pub stops_with : (p : ℕ → Bool) (text : List ℕ) (i j : ℕ) → p 0 ≡ false → MaximalRun p text i j → p (get_or text j 0) ≡ false
stops_with p text i j z r = grind (arith, get_or_past)

no_date_keylike : (c : ℕ) → is_date_byte c ≡ false → is_keylike c ≡ false
no_date_keylike c h = grind (arith, nat_tests)

keylike_digit : (c : ℕ) → is_keylike c ≡ false → is_ascii_digit c ≡ false
keylike_digit c h = grind (arith, nat_tests)

goes_keylike : (c : ℕ) → (is_keylike c || c == 46) ≡ false → is_keylike c ≡ false
goes_keylike c h = (or_parts (is_keylike c) (c == 46) h).0

pub number_stops : (s : Scalar) (text : List ℕ) (i j : ℕ) → IsNumber s text i j → is_keylike (get_or text j 0) ≡ false
number_stops (integer m) text i j (inl d) = goes_keylike (get_or text j 0) d.ends
number_stops (integer m) text i j (inr x) = x.ends
number_stops (float (finite ds)) text i j (f, e) = f.ends
number_stops (float (infinite d)) text i j (f, e) = goes_keylike (get_or text j 0) f.ends
number_stops (float (not_a_number d)) text i j (f, e) = goes_keylike (get_or text j 0) f.ends
number_stops (text_scalar v) text i j h = absurd h
number_stops (boolean d) text i j h = absurd h
number_stops (datetime d) text i j h = absurd h

pub candidate_stops : (text : List ℕ) (i j : ℕ) → IsCandidate text i j → (i ≤ j) × (is_keylike (get_or text j 0) ≡ false)
candidate_stops text i j (inl (r, h)) = (r.forward, no_date_keylike (get_or text j 0) (stops_with is_date_byte text i j refl r))
candidate_stops text i j (inr (r, h, s)) = (omega (arith, s.forward), no_date_keylike (get_or text j 0) (stops_with is_date_byte text (i + 11) j refl s))

module _ {a b : List ℕ} {n : ℕ} (w : Same a b n) where
  -- whether a date begins
  date_same : (i j : ℕ) → j < n → i ≤ j → is_keylike (get_or a j 0) ≡ false → begins_date a i ≡ begins_date b i
  date_same i j p l h =
      let off : is_ascii_digit (get_or a j 0) ≡ false = keylike_digit (get_or a j 0) h in
      elim (cases_lt i j) [
        | inr x ↦ (let e : i ≡ j = omega arith in let d : is_ascii_digit (get_or a i 0) ≡ false = rw e off in at_once i (omega arith) d)
        | inl x ↦ elim (cases_lt (i + 1) j) [
          | inr y ↦ (let e : i + 1 ≡ j = omega arith in let d : is_ascii_digit (get_or a (i + 1) 0) ≡ false = rw e off in after_one i (omega arith) d)
          | inl y ↦ elim (cases_lt (i + 2) j) [
            | inr z ↦ (let e : i + 2 ≡ j = omega arith in let d : is_ascii_digit (get_or a (i + 2) 0) ≡ false = rw e off in after_two i (omega arith) d)
            | inl z ↦ elim (cases_lt (i + 3) j) [
              | inr u ↦ (let e : i + 3 ≡ j = omega arith in let d : is_ascii_digit (get_or a (i + 3) 0) ≡ false = rw e off in after_three i (omega arith) d)
              | inl u ↦ rw (w.byte i (omega arith), w.byte (i + 1) (omega arith), w.byte (i + 2) (omega arith), w.byte (i + 3) (omega arith), w.byte (i + 4) (omega arith)) refl
            ]
          ]
        ]
      ]
    where
      at_once : (i : ℕ) → i < n → is_ascii_digit (get_or a i 0) ≡ false → begins_date a i ≡ begins_date b i
      at_once i l d = let e = test w is_ascii_digit false i l d in rw (d, e) refl

      after_one : (i : ℕ) → i + 1 < n → is_ascii_digit (get_or a (i + 1) 0) ≡ false → begins_date a i ≡ begins_date b i
      after_one i l d = let e = test w is_ascii_digit false (i + 1) l d in rw (d, e, and-false (is_ascii_digit (get_or a i 0)), and-false (is_ascii_digit (get_or b i 0))) refl

      after_two : (i : ℕ) → i + 2 < n → is_ascii_digit (get_or a (i + 2) 0) ≡ false → begins_date a i ≡ begins_date b i
      after_two i l d = let e = test w is_ascii_digit false (i + 2) l d in rw (d, e, w.byte i (omega arith), w.byte (i + 1) (omega arith), w.byte (i + 2) (omega arith)) refl

      after_three : (i : ℕ) → i + 3 < n → is_ascii_digit (get_or a (i + 3) 0) ≡ false → begins_date a i ≡ begins_date b i
      after_three i l d =
          let e = test w is_ascii_digit false (i + 3) l d in
          rw (d, e, and-false (is_ascii_digit (get_or a (i + 2) 0)), and-false (is_ascii_digit (get_or b (i + 2) 0)), w.byte i (omega arith), w.byte (i + 1) (omega arith), w.byte (i + 2) (omega arith)) refl

  ends_same : (i : ℕ) → i ≤ length a → run_end a i < n → run_end b i ≡ run_end a i
  unfolding run_end
  ends_same i l m = run_is b i (run_end a i) (run w is_keylike i (run_end a i) m (run_found is_keylike a i l))

  runs_same : (i : ℕ) → i ≤ length a → run_end a i < n → run_at b i ≡ run_at a i
  runs_same i l m = rw (ends_same i l m) (sym (range w i (run_end a i) (omega arith)))

  number_or : (i : ℕ) → i ≤ length a → i ≤ run_end a i → run_end a i < n → (begins_number (get_or b i 0) || is_some (special false (run_at b i))) ≡ (begins_number (get_or a i 0) || is_some (special false (run_at a i)))
  number_or i l k m = rw (runs_same i l m, w.byte i (omega arith)) refl

  word_same : (i : ℕ) → i ≤ length a → run_end a i < n → word b i ≡ word a i
  word_same i l m = rw (runs_same i l m, ends_same i l m) refl

pub run_on : (text : List ℕ) (i : ℕ) → i ≤ length text → MaximalRun is_keylike text i (run_end text i)
unfolding run_end
run_on text i l = run_found is_keylike text i l

-- a run ends no later than where a byte of no run is
run_before : (text : List ℕ) (i j : ℕ) → i ≤ length text → i ≤ j → is_keylike (get_or text j 0) ≡ false → run_end text i ≤ j
run_before text i j l m h = elim (cases_lt j (run_end text i)) [
  | inl x ↦ absurd (false≢true (sym h ∙ (run_on text i l).passes j m x))
  | inr x ↦ x
]

abbrev ScalarFound : List ℕ → ℕ → Result (Scalar × ℕ) Fault → Type 0
ScalarFound a i r = (j : ℕ) × (i ≤ j) × ScalarTold a r j × (is_keylike (get_or a j 0) ≡ false) × ((n : ℕ) → Reach a r j n → (j < n) × ((b : List ℕ) → Same a b n → r ≡ number_or_word b i))

-- the fault of a number is no other one
invalid : (a : List ℕ) (i : ℕ) (e : Fault) (j : ℕ) → i ≤ e.span.start → e.span.start ≤ j → MaximalRun is_date_byte a i j → e.kind ≡ kinds.InvalidNumber → EndsReported a e j
invalid a i e j l m r k = rw k (record { forward = m; within = r.within; passes = λ x y z. r.passes x (omega arith) z; stops = r.stops })

number_found : (a : List ℕ) (i : ℕ) (r : Result (Scalar × ℕ) Fault) → begins_bare (get_or a i 0) ≡ true → i ≤ length a → (begins_number (get_or a i 0) || is_some (special false (run_at a i))) ≡ true → number a i ≡ r → ScalarFound a i r
number_found a i (Ok (s, m)) h l t e =
    let v = number_sound s a i m h e in
    let f = number_on s a i m v in
    let off = number_stops s a i m v in
    let k = run_before a i m l f.0 off in
    let o = (run_on a i l).forward in
    (m, f.0, refl, off, λ n p. (p.here, λ b w. (let g = p.here in rw (number_or w i l o (omega arith), t) (sym (number_complete s b i m (number_kept w s i m g v))))))
number_found a i (Err x) h l t e =
    let J : ℕ = i + prefix_len is_date_byte (drop i a) in
    let whole : MaximalRun is_date_byte a i J = run_found is_date_byte a i l in
    let off = no_date_keylike (get_or a J 0) (stops_with is_date_byte a i J refl whole) in
    let p = number_fault a i J whole x e in
    let k = run_before a i J l whole.forward off in
    let o = (run_on a i l).forward in (
      J,
      whole.forward,
      invalid a i x J p.0 p.1 whole p.2,
      off,
      λ n is. (
          let two : n ≡ J + 2 = rw p.2 at is in
          (omega arith, λ b w. rw (number_or w i l o (omega arith), t) (sym (p.3 b (rw two at w))))),
    )

abbrev WordTold : List ℕ → ℕ → Result (Scalar × ℕ) Fault → Type 0
WordTold text j r = ScalarTold text r j × ((n : ℕ) → Reach text r j n → j < n)

word_told : (text : List ℕ) (i : ℕ) → WordTold text (run_end text i) (word text i)
word_told text i = by (bytes_eq (run_at text i) (codes "true")) (bytes_eq (run_at text i) (codes "false"))
  where
    by : (x y : Bool) → WordTold text (run_end text i) (if x then Ok (boolean true, run_end text i) else if y then Ok (boolean false, run_end text i) else Err (record { kind = kinds.UnquotedString; span = from_to i (run_end text i) }))
    by true y = (refl, λ n p. p.here)
    by false true = (refl, λ n p. p.here)
    by false false = (refl, λ n is. omega (arith, is))

word_found : (a : List ℕ) (i : ℕ) (r : Result (Scalar × ℕ) Fault) → i ≤ length a → (begins_number (get_or a i 0) || is_some (special false (run_at a i))) ≡ false → r ≡ word a i → ScalarFound a i r
word_found a i r l t e =
    let run = run_on a i l in
    let f = run.forward in
    let s = word_told a i in (
      run_end a i,
      f,
      rw e s.0,
      stops_with is_keylike a i (run_end a i) refl run,
      λ n reach. (
          let m : run_end a i < n = s.1 n (rw e at reach) in
          (m, λ b w. rw (number_or w i l f m, t) (e ∙ sym (word_same w i l m)))),
    )

bare_solid : (c : ℕ) → begins_bare c ≡ true → (c ≡ 32) ⊎ (c ≡ 13) → ⊥
bare_solid c h (inl e) = absurd (false≢true (rw e at h))
bare_solid c h (inr e) = absurd (false≢true (rw e at h))

pub bare_found : (a : List ℕ) (i : ℕ) (r : Result (Scalar × ℕ) Fault) → begins_bare (get_or a i 0) ≡ true → read.bare a i r
    → (j : ℕ) × ScalarTold a r j × ((n : ℕ) → Reach a r j n → Past a n i × ((b : List ℕ) → Same a b n → read.bare b i r))
bare_found a i r h (inl (t, (j, c, d))) =
    let o = candidate_stops a i j c in
    (j, (date_told d).0, λ n reach. (let p = (date_told d).1 n reach in (past_less o.0 p, λ b w. inl (sym (date_same w i j p.here o.0 o.1) ∙ t, (j, candidate w i j p c, rw (range w i j (omega (arith, p.here))) at d)))))
  where
    date_told : read.choice (is_date_text (slice_range a i j)) (read.gives (Ok (datetime (slice_range a i j), j))) (read.gives (Err (record { kind = kinds.InvalidDatetime; span = from_to i j }))) r → ScalarTold a r j × ((n : ℕ) → Reach a r j n → Past a n j)
    date_told (inl (x, e)) = rw e (refl, λ n p. p)
    date_told (inr (x, e)) = rw e (refl, λ n is. past_two (omega (arith, is)))
bare_found a i r h (inr (t, e)) =
    let (j, l, told, off, k) = found (bool_cases (begins_number (get_or a i 0) || is_some (special false (run_at a i)))) in (
      j,
      told,
      λ n reach. (
          let (p, q) = k n reach in
          let solid : Past a n i = record { here = omega arith; next = λ o. absurd (bare_solid (get_or a i 0) h o) } in
          (solid, λ b w. inr (sym (date_same w i j p l off) ∙ t, q b w))),
    )
  where
    inside : i ≤ length a
    inside = elim (cases_lt (length a) i) [
      | inl x ↦ (let z : get_or a i 0 ≡ 0 = get_or_past a i 0 (omega arith) in absurd (false≢true (rw z at h)))
      | inr x ↦ x
    ]

    found : ((begins_number (get_or a i 0) || is_some (special false (run_at a i))) ≡ true) ⊎ ((begins_number (get_or a i 0) || is_some (special false (run_at a i))) ≡ false) → ScalarFound a i r
    found (inl x) = number_found a i r h inside x (sym (rw x at e))
    found (inr x) = word_found a i r inside x (rw x at e)
