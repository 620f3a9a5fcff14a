-- A text and another one with the same bytes up to the end of what a fault of the first one reports, and two more, have
-- the same fault.
use Rattle.toml_span_lex.proofs.Common.{◌≡◌, ℕ, zero, suc, ◌+◌, ◌<◌, ◌≤◌, ◌⊎◌, false, List, [], length, get_or, take, arith, inl, inr, refl, sym, ap, ◌∙◌, ◌==◌, Err, cases_lt, take_all, length-take, get_or-take, len_utf8_ascii, drop, char_from_byte, nat_tests, common_steps}
use Rattle.std.proofs.lemmas.Bool.{ne_eqb}
use Rattle.toml_span_lex.specs.declared.tokens.Error.TheVariants as errors
use Rattle.toml_span_lex.specs.Text.{CharAt, FirstPlace}
use Rattle.toml_span_lex.proofs.One.{err_same}
use Rattle.toml_span_lex.proofs.OneFault.{char_unique}
use Rattle.toml_span_lex.proofs.Runs.{past_ascii, char_within}
use Rattle.toml_span_read.specs.declared.fault.Fault.{Fault}
use Rattle.toml_span_read.specs.declared.fault.FaultKind.TheVariants as kinds
use Rattle.toml_span_read.specs.Data.{ParsedSection}
use Rattle.toml_span_read.specs.Faults.{fault_at}
use Rattle.toml_span_read.specs.Gaps.{MaximalGap}
use Rattle.toml_span_read.specs.Grammar.{SpellsDocument}
use Rattle.toml_span_read.specs.Read as read
use Rattle.toml_span_read.specs.Read.{stops, no_token}
use Rattle.toml_span_laws.specs.Reported.{EndsReported, ahead}
use Rattle.toml_span_laws.proofs.Complete.{document_complete}
use Rattle.toml_span_laws.proofs.OneReading.{document_one}
use Rattle.toml_span_laws.proofs.OneSpelled.{not_reported}
use Rattle.toml_span_laws.proofs.KeptBytes.{Same, char, char_on}
use Rattle.toml_span_laws.proofs.KeptForms.{Past, past_less, crlf_same}
use Rattle.toml_span_laws.proofs.KeptReading.{document_found}

-- ---- a text that begins with another character than ASCII or a byte order mark

pub high_byte : (text : List ℕ) (c m : ℕ) → CharAt text 0 c m → 128 ≤ c → 128 ≤ get_or text 0 0
high_byte text c m (inl x) l = absurd (omega (arith, x.1))
high_byte text c m (inr x) l = elim (cases_lt (get_or text 0 0) 128) [
  | inl low ↦ absurd (omega (arith, char_from_byte text (drop m text) c x.2 low (char_within text 0 c m (inr x))))
  | inr past ↦ past
]

high_gap : (text : List ℕ) → 128 ≤ get_or text 0 0 → MaximalGap text 0 0
high_gap text h = record { ends = []; pieces = refl; forward = omega arith; stops = grind (arith, nat_tests) }

high_key : (text : List ℕ) (limit c m : ℕ) → CharAt text 0 c m → 128 ≤ c → read.key false text limit [] 0 (Err (fault_at (kinds.Unexpected c) 0))
unfolding read.key
high_key text zero c m h l = inr (fault_at (kinds.Unexpected c) 0, (no_token (errors.Unexpected 0 c), (m, inl (refl, h, past_ascii c l)), refl), refl)
high_key text (suc limit) c m h l = inr (fault_at (kinds.Unexpected c) 0, (no_token (errors.Unexpected 0 c), (m, inl (refl, h, past_ascii c l)), refl), refl)

high_document : (text : List ℕ) (limit c m : ℕ) → CharAt text 0 c m → 128 ≤ c → (c ≡ 65279 → ⊥) → read.document text limit (Err (fault_at (kinds.Unexpected c) 0))
unfolding read.document
high_document text limit c m h l n =
    let e : Fault = fault_at (kinds.Unexpected c) 0 in
    let high = high_byte text c m h l in
    let some : 0 < length text = grind (arith, common_steps) in
    let here : (0 == length text) ≡ false = ne_eqb 0 (length text) (λ x. omega arith) in
    let bracket : (get_or text 0 0 == 91) ≡ false = ne_eqb (get_or text 0 0) 91 (λ x. omega arith) in
    let first : FirstPlace text 0 = inr (refl, inr (c, m, h, n)) in
    let step : read.next_assignment text limit ([], 0) (Err e) = inr (rw (here, bracket) refl, inr (e, inr (e, high_key text limit c m h l, refl), refl)) in
    inr (e, (0, first, inr (e, (0, high_gap text high, stops ([], 0) e step), refl)), refl)

-- ---- the same fault

pub first_kept : (a : List ℕ) → ((c m : ℕ) → CharAt a 0 c m → 128 ≤ c → c ≡ 65279) → (i n : ℕ) (b : List ℕ) → FirstPlace a i → Past a n i → Same a b n → FirstPlace b i
first_kept a low i n b (inl h) p w = inl (char w 0 65279 i p.here h)
first_kept a low i n b (inr (z, inl e)) p w = absurd (omega (arith, w.in_a, e, p.here))
first_kept a low i n b (inr (z, inr (c, m, h, none))) p w = inr (z, inr (c, m, kept h, none))
  where
    start : Past a n 0
    start = past_less (omega arith) p

    kept : CharAt a 0 c m → CharAt b 0 c m
    kept (inl x) = inl (sym (crlf_same w 0 start) ∙ x.0, x.1, x.2)
    kept (inr x) = elim (cases_lt c 128) [
      | inl y ↦ (let l = start.here in char_on w 0 c m (omega (arith, x.1, len_utf8_ascii c y)) (sym (crlf_same w 0 start) ∙ x.0) x.1 x.2)
      | inr y ↦ absurd (none (low c m (inr x) y))
    ]

-- where reading begins
place : (a : List ℕ) (limit : ℕ) (e : Fault) → read.document a limit (Err e) → (i : ℕ) × FirstPlace a i
unfolding read.document
place a limit e (inl (x, (i, f, g), h)) = (i, f)
place a limit e (inr (x, (i, f, g), h)) = (i, f)

agrees_low : (a : List ℕ) (limit : ℕ) (e : Fault) → read.document a limit (Err e) → ((c m : ℕ) → CharAt a 0 c m → 128 ≤ c → c ≡ 65279) → (j : ℕ) × EndsReported a e j × ((b : List ℕ) → Same a b (j + ahead e.kind) → read.document b limit (Err e))
agrees_low a limit e h low = document_found a (first_kept a low) limit e h

agrees_first : (a : List ℕ) (limit : ℕ) (e : Fault) (i : ℕ) → read.document a limit (Err e) → FirstPlace a i → (j : ℕ) × EndsReported a e j × ((b : List ℕ) → Same a b (j + ahead e.kind) → read.document b limit (Err e))
agrees_first a limit e i h (inl x) = agrees_low a limit e h (λ c m y l. (char_unique a 0 c 65279 m i y x).1)
agrees_first a limit e i h (inr (z, inl x)) = agrees_low a limit e h (λ c m y l. absurd (omega (arith, x, char_within a 0 c m y)))
agrees_first a limit e i h (inr (z, inr (c, m, x, n))) = elim (cases_lt c 128) [
  | inl low ↦ agrees_low a limit e h (λ d k y l. absurd (omega (arith, (char_unique a 0 c d m k x y).1)))
  | inr high ↦
      let same : e ≡ fault_at (kinds.Unexpected c) 0 = err_same (document_one a limit (Err e) (Err (fault_at (kinds.Unexpected c) 0)) h (high_document a limit c m x high n)) in
      rw same (m, x, λ b w. high_document b limit c m (char w 0 c m (omega arith) x) high n)
]

agrees : (a : List ℕ) (limit : ℕ) (e : Fault) → read.document a limit (Err e) → (j : ℕ) × EndsReported a e j × ((b : List ℕ) → Same a b (j + ahead e.kind) → read.document b limit (Err e))
agrees a limit e h = let (i, f) = place a limit e h in agrees_first a limit e i h f

-- texts with the same first bytes, unless the first one ends before
same_or : (a b : List ℕ) (n : ℕ) → take n a ≡ take n b → Same a b n ⊎ (a ≡ b)
same_or a b n e =
    let l = ap length e in
    elim (cases_lt (length a) n) [
      | inl x ↦
          let p = take_all n a (omega arith) in
          let q = take_all n b (omega (arith, l, length-take n a, length-take n b)) in
          inr (sym p ∙ (e ∙ q))
      | inr x ↦ inl (record {
        in_a = x;
        in_b = omega (arith, l, length-take n a, length-take n b);
        byte = λ k y. sym (get_or-take n a k 0 y) ∙ (ap (λ (z : List ℕ). get_or z k 0) e ∙ get_or-take n b k 0 y);
      })
    ]

pub same_fault : (text : List ℕ) (limit : ℕ) (fault : Fault) → read.document text limit (Err fault) → (end : ℕ) × EndsReported text fault end × ((other : List ℕ) → take (end + ahead fault.kind) text ≡ take (end + ahead fault.kind) other → read.document other limit (Err fault))
same_fault text limit fault h =
    let (j, told, k) = agrees text limit fault h in
    (j, told, λ other e. elim (same_or text other (j + ahead fault.kind) e) [ inl w ↦ k other w | inr s ↦ rw s at h ])

pub none_goes_on : (text : List ℕ) (limit : ℕ) (fault : Fault) → read.document text limit (Err fault) → (end : ℕ) × EndsReported text fault end
    × ((other : List ℕ) (sections : List ParsedSection) → take (end + ahead fault.kind) text ≡ take (end + ahead fault.kind) other → SpellsDocument sections other limit → ⊥)
none_goes_on text limit fault h =
    let (j, told, k) = same_fault text limit fault h in
    (j, told, λ other sections e d. not_reported (read.document other limit) sections fault (document_one other limit) (document_complete sections other limit d) (k other e))
