-- Gaps, tails and dates in a text are also in another one whose first bytes are the same.
use Rattle.toml_span_lex.proofs.Common.{◌≡◌, ℕ, ◌+◌, ◌<◌, ◌≤◌, ◌⊎◌, Bool, true, false, List, [], ◌∷◌, length, get_or, arith, inl, inr, refl, sym, ◌∙◌, ◌==◌, drop_more, nat_tests, common_steps, cases_lt, false≢true, Result, Ok, Err}
use Rattle.toml_span_lex.specs.declared.span.Span.{Span}
use Rattle.toml_span_lex.specs.Bytes.{is_blank, is_printed, MaximalRun}
use Rattle.toml_span_lex.specs.Strings.{IsString}
use Rattle.toml_span_lex.specs.Text.{is_crlf, LineEnd, CharAt}
use Rattle.toml_span_lex.proofs.Copies.{content_fits}
use Rattle.toml_span_lex.proofs.PieceLemmas.{line_forward}
use Rattle.toml_span_read.specs.Dates.{is_date_byte, continues_date, IsCandidate}
use Rattle.toml_span_read.specs.Gaps.{GapPiece, GapBy, MaximalGap, Dot, NoDot, Skipped, Tail, NoTail}
use Rattle.toml_span_read.specs.declared.fault.Fault.{Fault}
use Rattle.toml_span_read.proofs.NumberLemmas.{bool_cases, byte_is}
use Rattle.toml_span_laws.specs.Reported.{ahead}
use Rattle.toml_span_laws.proofs.KeptBytes.{Same, test, run, line}

-- n is past the byte at k, and past the next one where that byte is a space or a carriage return
pub record Past (text : List ℕ) (n k : ℕ) : Type 0 where
  pub here : k < n
  pub next : (get_or text k 0 ≡ 32) ⊎ (get_or text k 0 ≡ 13) → k + 1 < n

pub past_less : {text : List ℕ} {n i k : ℕ} → i ≤ k → Past text n k → Past text n i
past_less {i = i} {k} l p = let h = p.here in elim (cases_lt i k) [ inl x ↦ record { here = omega arith; next = λ o. omega arith } | inr x ↦ (let e : i ≡ k = omega arith in rw e p) ]

-- n is two past k
pub past_two : {text : List ℕ} {n k : ℕ} → k + 1 < n → Past text n k
past_two l = record { here = omega arith; next = λ o. omega arith }

-- A value that is read ends at j, and each n past it will do; a fault takes as many bytes after its end as it does.
abbrev pub Reach : {A : Type 0} → List ℕ → Result A Fault → ℕ → ℕ → Type 0
Reach text (Ok x) j n = Past text n j
Reach text (Err e) j n = n ≡ j + ahead e.kind

piece_forward : (text : List ℕ) (i j : ℕ) → GapPiece text i j → i ≤ j
piece_forward text i j (inl h) = omega (arith, h.1)
piece_forward text i j (inr (inl h)) = omega (arith, line_forward text i j h)
piece_forward text i j (inr (inr h)) = h.1.forward

pub pieces_forward : (text : List ℕ) (i j : ℕ) (ks : List ℕ) → GapBy text i ks j → i ≤ j
pieces_forward text i j [] h = omega arith
pieces_forward text i j (k ∷ ks) h = omega (arith, piece_forward text i k h.0, pieces_forward text k j ks h.1)

-- a line end as a character
pub line_char : (text : List ℕ) (i j : ℕ) → LineEnd text i j → CharAt text i 10 j
unfolding lib.Utf8.encode
line_char text i j (inl h) =
    let some : i < length text = grind (arith, common_steps) in
    inr (grind (arith, nat_tests), h.1, rw (drop_more text i 0 some, h.0, h.1) refl)
line_char text i j (inr h) = inl (h.0, refl, h.1)

-- a string ends at most three quotes after its span, on one line one quote
pub string_span : (text : List ℕ) (i j : ℕ) (s : Span) (src v : List ℕ) (multi : Bool) → IsString text i j s src v multi → (s.end ≤ j) × (j ≤ s.end + 3)
string_span text i j s src v multi h =
    let fit = content_fits (get_or text i 0) multi text v h.from h.to j h.content_is in grind (arith, nat_tests, common_steps, h.content_is.to_is)

pub single_span : (text : List ℕ) (i j : ℕ) (s : Span) (src v : List ℕ) → IsString text i j s src v false → (s.end ≤ j) × (j ≤ s.end + 1)
single_span text i j s src v h =
    let fit = content_fits (get_or text i 0) false text v h.from h.to j h.content_is in grind (arith, nat_tests, common_steps, h.content_is.to_is)

-- a gap extends over the spaces and tabs
pub past_blanks : (text : List ℕ) (i j k : ℕ) → MaximalRun is_blank text i j → MaximalGap text i k → j ≤ k
past_blanks text i j k r g = elim (cases_lt k j) [
  | inl l ↦ let p = r.passes k g.forward l in absurd (false≢true (sym g.stops ∙ rw p refl))
  | inr l ↦ l
]

module _ {a b : List ℕ} {n : ℕ} (w : Same a b n) where
  gap_piece : (i j : ℕ) → j < n → GapPiece a i j → GapPiece b i j
  gap_piece i j l (inl h) = inl (test w is_blank true i (omega (arith, h.1)) h.0, h.1)
  gap_piece i j l (inr (inl h)) = inr (inl (line w i j (omega arith) h))
  gap_piece i j l (inr (inr h)) = inr (inr (test w (λ x. x) 35 i (omega (arith, h.1.forward)) h.0, run w is_printed i j l h.1))

  gap_by : (ks : List ℕ) (i j : ℕ) → j < n → GapBy a i ks j → GapBy b i ks j
  gap_by [] i j l h = h
  gap_by (k ∷ ks) i j l h = (gap_piece i k (omega (arith, pieces_forward a k j ks h.1)) h.0, gap_by ks k j l h.1)

  pub crlf_same : (i : ℕ) → Past a n i → is_crlf a i ≡ is_crlf b i
  crlf_same i p = elim (bool_cases (get_or a i 0 == 13)) [
    | inl h ↦ let l = p.next (inr (byte_is (get_or a i 0) 13 h)) in rw (w.byte i p.here, w.byte (i + 1) l) refl
    | inr h ↦ let e = test w (λ c. c == 13) false i p.here h in rw (h, e) refl
  ]

  pub gap : (i j : ℕ) → Past a n j → MaximalGap a i j → MaximalGap b i j
  gap i j p g = record {
    ends = g.ends;
    pieces = gap_by g.ends i j p.here g.pieces;
    forward = g.forward;
    stops = rw (crlf_same j p, w.byte j p.here) at g.stops;
  }

  pub dot : (i j : ℕ) → j < n → Dot a i j → Dot b i j
  dot i j l d = record {
    at = d.at;
    before = run w is_blank i d.at (omega (arith, d.after.forward)) d.before;
    here = test w (λ x. x) 46 d.at (omega (arith, d.after.forward)) d.here;
    after = run w is_blank (d.at + 1) j l d.after;
  }

  pub no_dot : (i : ℕ) (d : NoDot a i) → d.at < n → NoDot b i
  no_dot i d l = record { at = d.at; before = run w is_blank i d.at l d.before; here = test w (λ x. x == 46) false d.at l d.here }

  pub skipped : (i j : ℕ) → j < n → Skipped a i j → (i ≤ j) × Skipped b i j
  skipped i j l s = elim s.comment [
    | inl h ↦ (
      omega (arith, s.blank.forward, h.1.forward),
      record { at = s.at; blank = run w is_blank i s.at (omega (arith, h.1.forward)) s.blank; comment = inl (test w (λ x. x) 35 s.at (omega (arith, h.1.forward)) h.0, run w is_printed s.at j l h.1) },
    )
    | inr h ↦ (
      omega (arith, s.blank.forward, h.1),
      record { at = s.at; blank = run w is_blank i s.at (omega (arith, h.1)) s.blank; comment = inr (test w (λ x. x == 35) false s.at (omega (arith, h.1)) h.0, h.1) },
    )
  ]

  pub tail : (i j : ℕ) → j < n → Tail a i j → Tail b i j
  tail i j l (k, s, inl e) = let f = line_forward a k j e in (k, (skipped i k (omega arith) s).1, inl (line w k j (omega arith) e))
  tail i j l (k, s, inr e) = absurd (omega (arith, e.0, e.1, w.in_a))

  pub no_tail : (i k : ℕ) → Past a n k → NoTail a i k → NoTail b i k
  no_tail i k p (s, o, none) = let l = p.here in ((skipped i k l s).1, omega (arith, w.in_b), (test w (λ c. c == 10) false k l none.0, sym (crlf_same k p) ∙ none.1))

  continues_same : (i : ℕ) → Past a n i → continues_date a i ≡ continues_date b i
  continues_same i p = elim (bool_cases (get_or a i 0 == 32)) [
    | inl h ↦ let l = p.next (inl (byte_is (get_or a i 0) 32 h)) in rw (w.byte i p.here, w.byte (i + 1) l) refl
    | inr h ↦ let e = test w (λ c. c == 32) false i p.here h in rw (h, e) refl
  ]

  pub candidate : (i j : ℕ) → Past a n j → IsCandidate a i j → IsCandidate b i j
  candidate i j p (inl (r, h)) = inl (run w is_date_byte i j p.here r, rw (continues_same j p) at h)
  candidate i j p (inr (r, h, s)) =
      let f = s.forward in
      let l = p.here in
      let o : Past a n (i + 10) = record { here = omega arith; next = λ x. omega arith } in
      inr (run w is_date_byte i (i + 10) (omega arith) r, sym (continues_same (i + 10) o) ∙ h, run w is_date_byte (i + 11) j l s)

pub tail_forward : (text : List ℕ) (i j : ℕ) → Tail text i j → i ≤ j
tail_forward text i j (k, s, e) = grind (arith, s.blank.forward, common_steps, nat_tests)
