-- What is read of a text, and each fault, depend only on the bytes up to the end of what is read or reported, and two
-- more.
use Rattle.toml_span_lex.proofs.Common.{◌≡◌, ℕ, zero, suc, ◌+◌, ◌<◌, ◌≤◌, ◌⊎◌, Option, None, Some, option_map_or, Bool, true, false, List, [], ◌∷◌, ◌++◌, length, get_or, arith, inl, inr, refl, sym, ap, ◌∙◌, ◌==◌, ◌||◌, Result, Ok, Err, nat_tests, common_steps, false≢true, get_or_past, if◌then◌else◌}
use Rattle.std.proofs.lemmas.Bool.{ne_eqb}
use Rattle.toml_span_lex.specs.declared.span.Span.{Span}
use Rattle.toml_span_lex.specs.declared.tokens.Error.{Error}
use Rattle.toml_span_lex.specs.declared.tokens.Error.TheVariants as errors
use Rattle.toml_span_lex.specs.Bytes.{is_blank, MaximalRun}
use Rattle.toml_span_lex.specs.Escapes.{hex_len, IsHexFault, IsEscapeFault}
use Rattle.toml_span_lex.specs.Pieces.{IsContentFault}
use Rattle.toml_span_lex.specs.Strings.{opens_multi}
use Rattle.toml_span_lex.specs.Text.{FirstPlace}
use Rattle.toml_span_lex.specs.Tokens.{Lexeme, whitespace, newline, comment, punctuator, keylike, string, is_punctuator, IsToken, IsLexeme, IsUnexpected, IsNoToken}
use Rattle.toml_span_lex.proofs.Within.{token_within, fault_within}
use Rattle.toml_span_lex.proofs.Unique.{run_unique}
use Rattle.toml_span_tree.specs.Node.{Scalar}
use Rattle.toml_span_read.specs.Earlier.{crossing}
use Rattle.toml_span_read.proofs.EarlierLemmas.{fault_to}
use Rattle.toml_span_read.specs.declared.fault.Fault.{Fault}
use Rattle.toml_span_read.specs.declared.fault.FaultKind.TheVariants as kinds
use Rattle.toml_span_read.specs.declared.fault.ExpectedToken.{ExpectedToken}
use Rattle.toml_span_read.specs.declared.fault.ExpectedToken.TheVariants as expected_tokens
use Rattle.toml_span_read.specs.Data.{SimpleKey, ParsedValue, ParsedInner, ParsedAssignment, ParsedSection, parsed_span, from_to, headerless_section}
use Rattle.toml_span_read.specs.Faults.{fault_at, token_fault, found_of, begins_bare, opens_nested}
use Rattle.toml_span_read.specs.Gaps.{MaximalGap, Tail, NoTail}
use Rattle.toml_span_read.specs.Read.{Reading, after, skipping, choice, LoopStep, on, done, Loop, ends, stops, goes_on, NextToken, token, text_end, no_token, IsNextToken, wanted, missing, key_result, one_too_many, Parts, onward, string_of, ValueEnd, Elements, array_end, Pairs, table_end, HeaderEnd, ParsedSections}
use Rattle.toml_span_read.specs.Read as read
use Rattle.toml_span_laws.specs.Reported.{TokenTo, EndsReported, ahead, is_byte_or_newline}
use Rattle.toml_span_laws.proofs.KeptBytes.{Same, test, run, line, token_kept, fault_kept}
use Rattle.toml_span_laws.proofs.KeptScalars.{ScalarTold, bare_found}
use Rattle.toml_span_laws.proofs.KeptForms.{Past, past_less, past_two, Reach, line_char, string_span, single_span, past_blanks, gap, dot, no_dot, tail, no_tail, tail_forward}

-- ---- the ends of faults in tokens

hex_reported : (start : ℕ) (text : List ℕ) (i n j : ℕ) (e : Error) → IsHexFault start text i n j e → EndsReported text (token_fault e) j
hex_reported start text i n j (errors.UnterminatedString s) h = h.1
hex_reported start text i n j (errors.InvalidHexEscape at c) h = h.3
hex_reported start text i n j (errors.InvalidEscapeValue at m v) h = omega (arith, h.0, h.1, h.4)
hex_reported start text i n j e h = absurd h

escape_reported : (start : ℕ) (text : List ℕ) (i j : ℕ) (e : Error) → IsEscapeFault start text i j e → EndsReported text (token_fault e) j
escape_reported start text i j e (inl h) = rw h.0 (omega (arith, h.1, h.2))
escape_reported start text i j e (inr (inl (c, is, shut, at))) = rw is (inl at)
escape_reported start text i j e (inr (inr h)) = hex_reported start text i (hex_len (get_or text i 0)) j e h.2

drop_reported : (start : ℕ) (text : List ℕ) (i j : ℕ) (b : Bool) → i + 1 < j → MaximalRun is_blank text (i + 1) j → (j == length text) ≡ b → EndsReported text (token_fault (if b then errors.UnterminatedString start else errors.InvalidEscape (i + 1) (get_or text (i + 1) 0))) j
drop_reported start text i j true l r e = grind (arith, nat_tests)
drop_reported start text i j false l r e = inr (l, r)

content_reported : (q : ℕ) (multi : Bool) (start : ℕ) (text : List ℕ) (i j : ℕ) (e : Error) → IsContentFault q multi start text i j e → EndsReported text (token_fault e) j
content_reported q multi start text i j e (inl h) = rw h.0 (omega (arith, h.1, h.2))
content_reported q multi start text i j e (inr (inl h)) = rw h.0 (line_char text i j h.2)
content_reported q multi start text i j e (inr (inr (inl (c, is, shut, none, at)))) = rw is at
content_reported q multi start text i j e (inr (inr (inr (inl h)))) = escape_reported start text (i + 1) j e h.3
content_reported q multi start text i j e (inr (inr (inr (inr h)))) = rw h.6 (drop_reported start text i j (j == length text) h.3 h.4 refl)

unexpected_reported : (text : List ℕ) (i j : ℕ) (e : Error) → IsUnexpected text i j e → EndsReported text (token_fault e) j
unexpected_reported text i j (errors.Unexpected at c) h = rw h.0 h.1
unexpected_reported text i j e h = absurd h

no_token_reported : (text : List ℕ) (i j : ℕ) (e : Error) → IsNoToken text i j e → EndsReported text (token_fault e) j
no_token_reported text i j e (inl h) = unexpected_reported text i j e h
no_token_reported text i j e (inr h) = content_reported (get_or text i 0) (opens_multi text i) i text h.fault.at j e h.fault.fault

module _ (a : List ℕ) where
  -- ---- what depends only on these bytes

  -- A value that is read ends at j, or what the fault reports does.
  abbrev Told : {A : Type 0} → (A → ℕ → Type 0) → Result A Fault → ℕ → Type 0
  Told P (Ok x) j = P x j
  Told P (Err e) j = EndsReported a e j

  -- m holds of each text with the same n bytes, and n is past i
  abbrev Holds : ℕ → (List ℕ → Type 0) → ℕ → Type 0
  Holds i m n = Past a n i × ((b : List ℕ) → Same a b n → m b)

  -- Reading this form at i has the same result in each text with the same bytes, as far as that result reaches.
  abbrev Found : {A : Type 0} → (A → ℕ → Type 0) → ℕ → (List ℕ → Reading A) → Result A Fault → Type 0
  Found P i m r = (j : ℕ) × Told P r j × ((n : ℕ) → Reach a r j n → Holds i (λ b. m b r) n)

  record Stays {A : Type 0} (P : A → ℕ → Type 0) (i : ℕ) (m : List ℕ → Reading A) : Type 0 where
    found : (r : Result A Fault) → m a r → Found P i m r

  stays_ok : {A : Type 0} {P : A → ℕ → Type 0} {i : ℕ} (x : A) (j : ℕ) → i ≤ j → P x j → Stays P i (λ b r. r ≡ Ok x)
  stays_ok x j l p = record { found = λ r h. (j, rw h p, λ n reach. (let q : Past a n j = rw h at reach in (past_less l q, λ b w. h))) }

  stays_err : {A : Type 0} {P : A → ℕ → Type 0} {i : ℕ} (e : Fault) (j : ℕ) → EndsReported a e j → ((n : ℕ) → n ≡ j + ahead e.kind → Past a n i) → Stays P i (λ b r. r ≡ Err e)
  stays_err e j p past = record { found = λ r h. (j, rw h p, λ n reach. (let q : n ≡ j + ahead e.kind = rw h at reach in (past n q, λ b w. h))) }

  earlier : {A : Type 0} {P : A → ℕ → Type 0} {h i : ℕ} {m : List ℕ → Reading A} → h ≤ i → Stays P i m → Stays P h m
  earlier l s = record { found = λ r g. (let (j, t, k) = s.found r g in (j, t, λ n reach. (let (p, q) = k n reach in (past_less l p, q)))) }

  after_found : {A B : Type 0} {P : A → ℕ → Type 0} {Q : B → ℕ → Type 0} {i : ℕ} {m : List ℕ → Reading A} {f : List ℕ → A → Reading B} → Stays P i m
      → ((x : A) (j : ℕ) → P x j → Stays Q j (λ b. f b x)) → (r : Result B Fault) → after (m a) (f a) r → Found Q i (λ b. after (m b) (f b)) r
  after_found first each r (inl (x, g, h)) =
      let (j, p, k) = first.found (Ok x) g in
      let (z, t, s) = (each x j p).found r h in (
        z,
        t,
        λ n reach. (
            let (past, keeps) = s n reach in
            let (before, holds) = k n past in
            (before, λ b w. inl (x, holds b w, keeps b w))),
      )
  after_found first each r (inr (e, g, is)) =
      let (j, t, k) = first.found (Err e) g in (
        j,
        rw is t,
        λ n reach. (
            let q : n ≡ j + ahead e.kind = rw is at reach in
            let (past, holds) = k n q in
            (past, λ b w. inr (e, holds b w, is))),
      )

  stays_after : {A B : Type 0} {P : A → ℕ → Type 0} {Q : B → ℕ → Type 0} {i : ℕ} {m : List ℕ → Reading A} {f : List ℕ → A → Reading B} → Stays P i m
      → ((x : A) (j : ℕ) → P x j → Stays Q j (λ b. f b x)) → Stays Q i (λ b. after (m b) (f b))
  stays_after {m = m} {f = f} first each = record { found = λ r h. after_found {m = m} {f = f} first each r h }

  -- what is skipped depends only on these bytes
  record Kept (skipped : List ℕ → ℕ → ℕ → Type 0) : Type 0 where
    forward : (i k : ℕ) → skipped a i k → i ≤ k
    keeps : (i k : ℕ) → skipped a i k → (n : ℕ) → Past a n k → (b : List ℕ) → Same a b n → skipped b i k

  stays_skipping : {A : Type 0} {P : A → ℕ → Type 0} {h i : ℕ} {skipped : List ℕ → ℕ → ℕ → Type 0} {next : List ℕ → ℕ → Reading A} → Kept skipped → ((k : ℕ) → skipped a i k → h ≤ k)
      → ((k : ℕ) → i ≤ k → skipped a i k → Stays P k (λ b. next b k)) → Stays P h (λ b. skipping (skipped b) i (next b))
  stays_skipping {i = i} kept from each = record {
    found = λ r (k, s, g). (
        let (j, t, q) = (each k (kept.forward i k s) s).found r g in (
          j,
          t,
          λ n reach. (
              let (past, holds) = q n reach in
              (past_less (from k s) past, λ b w. (k, kept.keeps i k s n past b w, holds b w))),
        ));
  }

  choice_found : {A : Type 0} {P : A → ℕ → Type 0} {i : ℕ} {test : List ℕ → Bool} {this that : List ℕ → Reading A} → ((n : ℕ) → Past a n i → (b : List ℕ) → Same a b n → test a ≡ test b)
      → (test a ≡ true → Stays P i this) → (test a ≡ false → Stays P i that) → (r : Result A Fault) → choice (test a) (this a) (that a) r → Found P i (λ b. choice (test b) (this b) (that b)) r
  choice_found same this that r (inl (t, g)) = let (j, p, k) = (this t).found r g in (j, p, λ n reach. (let (past, holds) = k n reach in (past, λ b w. inl (sym (same n past b w) ∙ t, holds b w))))
  choice_found same this that r (inr (t, g)) = let (j, p, k) = (that t).found r g in (j, p, λ n reach. (let (past, holds) = k n reach in (past, λ b w. inr (sym (same n past b w) ∙ t, holds b w))))

  stays_choice : {A : Type 0} {P : A → ℕ → Type 0} {i : ℕ} {test : List ℕ → Bool} {this that : List ℕ → Reading A} → ((n : ℕ) → Past a n i → (b : List ℕ) → Same a b n → test a ≡ test b)
      → (test a ≡ true → Stays P i this) → (test a ≡ false → Stays P i that) → Stays P i (λ b. choice (test b) (this b) (that b))
  stays_choice {test = test} {this = this} {that = that} same yes' no' = record { found = λ r h. choice_found {test = test} {this = this} {that = that} same yes' no' r h }

  -- a choice by the byte at i
  stays_byte : {A : Type 0} {P : A → ℕ → Type 0} {i : ℕ} {this that : List ℕ → Reading A} (p : ℕ → Bool) → (p (get_or a i 0) ≡ true → Stays P i this) → (p (get_or a i 0) ≡ false → Stays P i that)
      → Stays P i (λ b. choice (p (get_or b i 0)) (this b) (that b))
  stays_byte {i = i} {this = this} {that = that} p yes' no' = stays_choice {test = λ b. p (get_or b i 0)} {this = this} {that = that} (λ n past b w. ap p (w.byte i past.here)) yes' no'

  -- the next step begins where this one ends
  abbrev Turned : {X A : Type 0} → (A → ℕ → Type 0) → LoopStep (X × ℕ) A → ℕ → Type 0
  Turned P (on s) j = j ≡ s.1
  Turned P (done x) j = P x j

  loop_found : {X A : Type 0} {P : A → ℕ → Type 0} {step : List ℕ → X × ℕ → Reading (LoopStep (X × ℕ) A)} → ((s : X × ℕ) → Stays (Turned P) s.1 (λ b. step b s)) → {s : X × ℕ} {r : Result A Fault} → Loop (step a) s r
      → Found P s.1 (λ b. Loop (step b) s) r
  loop_found each (ends s x h) = let (j, t, k) = (each s).found (Ok (done x)) h in (j, t, λ n reach. (let (past, holds) = k n reach in (past, λ b w. ends s x (holds b w))))
  loop_found each (stops s e h) = let (j, t, k) = (each s).found (Err e) h in (j, t, λ n reach. (let (past, holds) = k n reach in (past, λ b w. stops s e (holds b w))))
  loop_found {step = step} each (goes_on s t r h m) =
      let (j, e, k) = (each s).found (Ok (on t)) h in
      let (z, u, g) = loop_found {step = step} each {s = t} {r = r} m in (
        z,
        u,
        λ n reach. (
            let (past, holds) = g n reach in
            let here : Past a n j = rw e past in
            let (before, first) = k n here in
            (before, λ b w. goes_on s t r (first b w) (holds b w))),
      )

  stays_loop : {X A : Type 0} {P : A → ℕ → Type 0} {step : List ℕ → X × ℕ → Reading (LoopStep (X × ℕ) A)} (s : X × ℕ) → ((s : X × ℕ) → Stays (Turned P) s.1 (λ b. step b s)) → Stays P s.1 (λ b. Loop (step b) s)
  stays_loop {step = step} s each = record { found = λ r h. loop_found {step = step} each {s = s} {r = r} h }

  -- ---- tokens

  abbrev EndsToken : ℕ → NextToken → ℕ → Type 0
  EndsToken i (token s l j) k = k ≡ j
  EndsToken i text_end k = k ≡ i
  EndsToken i (no_token e) k = IsNoToken a i k e

  -- what f makes of a token takes these bytes: of a value those past its end, of a fault none or more
  abbrev Takes : {A : Type 0} → ℕ → (NextToken → Result A Fault) → NextToken → ℕ → Type 0
  Takes i f t j = (n : ℕ) → Reach a (f t) j n → Holds i (λ b. (u : NextToken) × IsNextToken b i u × (f t ≡ f u)) n

  standing_found : {A : Type 0} (P : A → ℕ → Type 0) (i : ℕ) (f : NextToken → Result A Fault) → ((t : NextToken) (j : ℕ) → IsNextToken a i t → EndsToken i t j → Told P (f t) j × Takes i f t j)
      → (r : Result A Fault) (t : NextToken) → IsNextToken a i t → r ≡ f t → (j : ℕ) → EndsToken i t j → Found P i (λ b r. (t : NextToken) × IsNextToken b i t × (r ≡ f t)) r
  standing_found P i f told r t h is j e =
      let (p, k) = told t j h e in (
        j,
        rw is p,
        λ n reach. (
            let q : Reach a (f t) j n = rw is at reach in
            let (past, holds) = k n q in
            (past, λ b w. (let (u, x, same) = holds b w in (u, x, is ∙ same)))),
      )

  token_end : (i : ℕ) (t : NextToken) → IsNextToken a i t → (j : ℕ) × EndsToken i t j
  token_end i (token s l j) h = (j, refl)
  token_end i text_end h = (i, refl)
  token_end i (no_token e) (j, h) = (j, h)

  stays_standing : {A : Type 0} {P : A → ℕ → Type 0} (i : ℕ) (f : NextToken → Result A Fault) → ((t : NextToken) (j : ℕ) → IsNextToken a i t → EndsToken i t j → Told P (f t) j × Takes i f t j)
      → Stays P i (λ b r. (t : NextToken) × IsNextToken b i t × (r ≡ f t))
  stays_standing {P = P} i f told = record { found = λ r (t, h, is). (let (j, e) = token_end i t h in standing_found P i f told r t h is j e) }

  whole_solid : (l : Lexeme) (j i : ℕ) → IsToken a i j l → is_byte_or_newline (found_of l) ≡ true → (get_or a i 0 ≡ 32) ⊎ (get_or a i 0 ≡ 13) → i + 1 < j
  whole_solid newline j i (inl h) t o = absurd (space_return (get_or a i 0) h.0 o)
    where
      space_return : (c : ℕ) → c ≡ 10 → (c ≡ 32) ⊎ (c ≡ 13) → ⊥
      space_return c z (inl x) = omega arith
      space_return c z (inr x) = omega arith
  whole_solid newline j i (inr h) t o = omega (arith, h.1)
  whole_solid (punctuator d) j i h t o = absurd (sign_solid d (get_or a i 0) h.0 h.1 o)
    where
      sign_solid : (d c : ℕ) → is_punctuator d ≡ true → c ≡ d → (c ≡ 32) ⊎ (c ≡ 13) → ⊥
      sign_solid d c h e (inl x) = let z : d ≡ 32 = omega arith in absurd (false≢true (rw z at h))
      sign_solid d c h e (inr x) = let z : d ≡ 13 = omega arith in absurd (false≢true (rw z at h))
  whole_solid (whitespace x) j i h t o = absurd cc
  whole_solid (comment x) j i h t o = absurd cc
  whole_solid (keylike x) j i h t o = absurd cc
  whole_solid (string src v multi) j i h t o = absurd h

  -- a punctuator or a line end, up to its last byte
  whole_kept : (b : List ℕ) (n i : ℕ) (l : Lexeme) → Same a b n → IsToken a i n l → is_byte_or_newline (found_of l) ≡ true → IsToken b i n l
  whole_kept b n i newline w h t = line w i n (omega arith) h
  whole_kept b n i (punctuator c) w h t = (h.0, test w (λ x. x) c i (omega (arith, h.2)) h.1, h.2)
  whole_kept b n i (whitespace x) w h t = absurd cc
  whole_kept b n i (comment x) w h t = absurd cc
  whole_kept b n i (keylike x) w h t = absurd cc
  whole_kept b n i (string src v multi) w h t = absurd h

  whole_token : (i j : ℕ) (s : Span) (l : Lexeme) → IsLexeme a i j s l → is_byte_or_newline (found_of l) ≡ true → IsToken a i j l × (s ≡ from_to i j)
  whole_token i j s newline h t = h
  whole_token i j s (punctuator c) h t = h
  whole_token i j s (whitespace x) h t = h
  whole_token i j s (comment x) h t = h
  whole_token i j s (keylike x) h t = h
  whole_token i j s (string src v true) h t = absurd cc
  whole_token i j s (string src v false) h t = absurd cc

  token_lexeme : (b : List ℕ) (i j : ℕ) (s : Span) (l : Lexeme) → IsToken b i j l → s ≡ from_to i j → IsLexeme b i j s l
  token_lexeme b i j s (string src v multi) h e = absurd h
  token_lexeme b i j s (whitespace x) h e = (h, e)
  token_lexeme b i j s (comment x) h e = (h, e)
  token_lexeme b i j s (keylike x) h e = (h, e)
  token_lexeme b i j s newline h e = (h, e)
  token_lexeme b i j s (punctuator c) h e = (h, e)

  whole_takes : {A : Type 0} (i : ℕ) (f : NextToken → Result A Fault) (s : Span) (l : Lexeme) (m n : ℕ) → IsLexeme a i m s l → is_byte_or_newline (found_of l) ≡ true → n ≡ m
      → Holds i (λ b. (u : NextToken) × IsNextToken b i u × (f (token s l m) ≡ f u)) n
  whole_takes i f s l m n h t e =
      let o = token_within a i m s l h in
      let (g, is) = whole_token i m s l h t in
      let g' : IsToken a i n l = rw e g in
      let is' : s ≡ from_to i n = rw e is in (
        record { here = omega (arith, o.0); next = λ x. (let k = whole_solid l m i g t x in omega arith) },
        λ b w. (token s l n, token_lexeme b i n s l (whole_kept b n i l w g' t) is', rw e refl),
      )

  -- A token is known with the byte after it, and if it is whole in itself, up to its end.
  abbrev Known : Lexeme → ℕ → ℕ → Type 0
  Known l j n = (j < n) ⊎ ((is_byte_or_newline (found_of l) ≡ true) × (n ≡ j))

  wanted_known : (l : Lexeme) (j n : ℕ) → n ≡ j + (if is_byte_or_newline (found_of l) then 0 else 1) → Known l j n
  wanted_known l j n q = by (is_byte_or_newline (found_of l)) refl
    where
      by : (x : Bool) → is_byte_or_newline (found_of l) ≡ x → Known l j n
      by true x = let r : n ≡ j + 0 = rw x at q in inr (x, omega arith)
      by false x = let r : n ≡ j + 1 = rw x at q in inl (omega arith)

  token_takes : {A : Type 0} (i : ℕ) (f : NextToken → Result A Fault) (s : Span) (l : Lexeme) (m j : ℕ) → IsLexeme a i m s l → j ≡ m → ((n : ℕ) → Reach a (f (token s l m)) j n → Known l j n) → Takes i f (token s l m) j
  token_takes i f s l m j h e known n reach = elim (known n reach) [
    | inl k ↦ (let o = token_within a i m s l h in (past_two (omega (arith, o.0)), λ b w. (token s l m, token_kept w i m s l (omega arith) h, refl)))
    | inr k ↦ whole_takes i f s l m n h k.0 (omega (arith, k.1))
  ]

  end_takes : {A : Type 0} (i : ℕ) (f : NextToken → Result A Fault) (j : ℕ) → i ≡ length a → j ≡ i → ((n : ℕ) → Reach a (f text_end) j n → j < n) → Takes i f text_end j
  end_takes i f j h e known n reach =
      let k = known n reach in
      let z : get_or a i 0 ≡ 0 = get_or_past a i 0 (omega (arith, h)) in
      (record { here = omega arith; next = λ o. absurd (zero_solid (get_or a i 0) z o) }, λ b w. absurd (omega (arith, w.in_a)))
    where
      zero_solid : (c : ℕ) → c ≡ 0 → (c ≡ 32) ⊎ (c ≡ 13) → ⊥
      zero_solid c z (inl x) = omega arith
      zero_solid c z (inr x) = omega arith

  -- where there is no token, the fault is that of the tokenizer
  none_takes : {A : Type 0} (i : ℕ) (f : NextToken → Result A Fault) (x : Error) (j : ℕ) → IsNoToken a i j x → f (no_token x) ≡ Err (token_fault x) → Takes i f (no_token x) j
  none_takes i f x j h is n reach =
      let q : n ≡ j + ahead (token_fault x).kind = rw is at reach in
      let o = fault_within a i j x h in
      let l : j < n = some_ahead x n j q in
      (past_two (omega (arith, o.0)), λ b w. (no_token x, (j, fault_kept w i j x l (λ at c e. escape_ahead x n j at c q e) h), refl))
    where
      some_ahead : (x : Error) (n j : ℕ) → n ≡ j + ahead (token_fault x).kind → j < n
      some_ahead (errors.InvalidCharInString at c) n j q = omega arith
      some_ahead (errors.InvalidEscape at c) n j q = omega arith
      some_ahead (errors.InvalidHexEscape at c) n j q = omega arith
      some_ahead (errors.InvalidEscapeValue at len value) n j q = omega arith
      some_ahead (errors.NewlineInString at) n j q = omega arith
      some_ahead (errors.Unexpected at c) n j q = omega arith
      some_ahead (errors.UnterminatedString at) n j q = omega arith
      some_ahead (errors.MultilineStringKey start end) n j q = omega arith
      some_ahead (errors.Wanted at expected found) n j q = omega arith

      escape_ahead : (x : Error) (n j at c : ℕ) → n ≡ j + ahead (token_fault x).kind → x ≡ errors.InvalidEscape at c → j + 1 < n
      escape_ahead x n j at c q e = let t : n ≡ j + 2 = rw e at q in omega arith

  wanted_reported : (expected : ExpectedToken) (i : ℕ) (t : NextToken) (j : ℕ) → IsNextToken a i t → EndsToken i t j → EndsReported a (wanted expected i t) j
  wanted_reported expected i (token s l k) j h e = inl (s, l, rw e h)
  wanted_reported expected i text_end j h e = inr (h, e)
  wanted_reported expected i (no_token x) j h e = no_token_reported a i j x e

  wanted_takes : {A : Type 0} (expected : ExpectedToken) (i : ℕ) (t : NextToken) (j : ℕ) → IsNextToken a i t → EndsToken i t j → Takes {A = A} i (λ t. Err (wanted expected i t)) t j
  wanted_takes expected i (token s l m) j h e = token_takes i (λ t. Err (wanted expected i t)) s l m j h e (λ n r. wanted_known l j n r)
  wanted_takes expected i text_end j h e = end_takes i (λ t. Err (wanted expected i t)) j h e (λ n r. omega (arith, r))
  wanted_takes expected i (no_token x) j h e = none_takes i (λ t. Err (wanted expected i t)) x j e refl

  stays_missing : {A : Type 0} {P : A → ℕ → Type 0} (expected : ExpectedToken) (i : ℕ) → Stays P i (λ b. missing {A = A} expected b i)
  stays_missing expected i = stays_standing i (λ t. Err (wanted expected i t)) (λ t j h e. (wanted_reported expected i t j h e, wanted_takes expected i t j h e))

  -- ---- gaps

  gap_kept : Kept MaximalGap
  gap_kept = record { forward = λ i k g. g.forward; keeps = λ i k g n p b w. gap w i k p g }

  blanks_kept : Kept (λ b. MaximalRun is_blank b)
  blanks_kept = record { forward = λ i k r. r.forward; keeps = λ i k r n p b w. run w is_blank i k p.here r }

  -- ---- keys

  -- A key is at i..m, and its span ends there or before the last quote.
  abbrev KeyEnds : ℕ → SimpleKey × ℕ → ℕ → Type 0
  KeyEnds i (s, m) j = (j ≡ m) × (s.span.end ≤ m) × (m ≤ s.span.end + 1) × TokenTo a i m × (i < m)

  key_told : (i : ℕ) (t : NextToken) (j : ℕ) → IsNextToken a i t → EndsToken i t j → Told (KeyEnds i) (key_result i t) j
  key_told i (token s (keylike x) m) j h e = (e, omega (arith, ap (λ (z : Span). z.end) h.1), omega (arith, ap (λ (z : Span). z.end) h.1), inl (s, keylike x, h), (token_within a i m s (keylike x) h).0)
  key_told i (token s (string src v false) m) j h e = let l = single_span a i m s src v h in (e, l.0, l.1, inl (s, string src v false, h), (token_within a i m s (string src v false) h).0)
  key_told i (token s (string src v true) m) j h e = inl (s, string src v true, rw e h)
  key_told i t j h e = wanted_reported expected_tokens.TableKey i t j h e

  key_takes : (i : ℕ) (t : NextToken) (j : ℕ) → IsNextToken a i t → EndsToken i t j → Takes i (key_result i) t j
  key_takes i (token s (keylike x) m) j h e = token_takes i (key_result i) s (keylike x) m j h e (λ n r. inl r.here)
  key_takes i (token s (string src v false) m) j h e = token_takes i (key_result i) s (string src v false) m j h e (λ n r. inl r.here)
  key_takes i (token s (string src v true) m) j h e = token_takes i (key_result i) s (string src v true) m j h e (λ n r. inl (omega (arith, r)))
  key_takes i (token s l m) j h e = token_takes i (key_result i) s l m j h e (λ n r. wanted_known l j n r)
  key_takes i text_end j h e = end_takes i (key_result i) j h e (λ n r. omega (arith, r))
  key_takes i (no_token x) j h e = none_takes i (key_result i) x j e refl

  simple_stays : (i : ℕ) → Stays (KeyEnds i) i (λ b. read.simple_key_at b i)
  simple_stays i = stays_standing i (λ t. key_result i t) (λ t j h e. (key_told i t j h e, key_takes i t j h e))

  too_many_reported : (header : Bool) (i j : ℕ) (s : SimpleKey) → TokenTo a i j → s.span.end ≤ j → j ≤ s.span.end + 1 → EndsReported a (one_too_many header i s) j
  too_many_reported true i j s t l m = inr (l, m)
  too_many_reported false i j s t l m = inl t

  -- the spaces and tabs after the parts end there
  abbrev PartsEnd : Parts → ℕ → Type 0
  PartsEnd (ps, m) j = MaximalRun is_blank a m j

  onward_stays : (ps : List SimpleKey) (m : ℕ) (next : List ℕ → ℕ → Reading Parts) → ((p : ℕ) → Stays PartsEnd p (λ b. next b p)) → Stays PartsEnd m (λ b. onward b ps m (next b))
  onward_stays ps m next each = record { found = onward_found }
    where
      onward_found : (r : Result Parts Fault) → onward a ps m (next a) r → Found PartsEnd m (λ b. onward b ps m (next b)) r
      onward_found r (inl (none, is)) = (
        none.at,
        rw is none.before,
        λ n reach. (
            let p : Past a n none.at = rw is at reach in
            (past_less none.before.forward p, λ b w. inl (no_dot w m none p.here, is))),
      )
      onward_found r (inr (p, d, g)) =
          let (j, t, k) = (each p).found r g in
          let f = d.before.forward in
          let o = d.after.forward in (
            j,
            t,
            λ n reach. (
                let (past, holds) = k n reach in
                (past_less (omega arith) past, λ b w. inr (p, dot w m p past.here d, holds b w))),
          )

  key_stays : (header : Bool) (left : ℕ) (ps : List SimpleKey) (i : ℕ) → Stays PartsEnd i (λ b. read.key header b left ps i)
  unfolding read.key
  key_stays header zero ps i = stays_after (simple_stays i) (λ (s, m) j e. stays_err (one_too_many header i s) j (too_many_reported header i j s (rw (← e.0) at e.3) (omega (arith, e.0, e.1)) (omega (arith, e.0, e.2))) (λ n q. past_two (omega (arith, e.0, e.4, q))))
  key_stays header (suc n) ps i = stays_after (simple_stays i) (λ (s, m) j e. rw e.0 (onward_stays (ps ++ (s ∷ [])) m (λ b. read.key header b n (ps ++ (s ∷ []))) (λ p. key_stays header n (ps ++ (s ∷ [])) p)))

  -- ---- pairs

  -- A value ends there, and its span at most three quotes before.
  abbrev ValueEnds : ValueEnd → ℕ → Type 0
  ValueEnds (v, m) j = (j ≡ m) × ((parsed_span v).end ≤ m) × (m ≤ (parsed_span v).end + 3)

  abbrev PairEnds : ParsedAssignment × ℕ → ℕ → Type 0
  PairEnds (e, m) j = (j ≡ m) × ((parsed_span e.value).end ≤ m) × (m ≤ (parsed_span e.value).end + 3)

  keyval_stays : (limit : ℕ) (skipped : List ℕ → ℕ → ℕ → Type 0) → Kept skipped → ((i j k : ℕ) → MaximalRun is_blank a i j → skipped a i k → j ≤ k) → (value : List ℕ → ℕ → ℕ → Reading ValueEnd) → ((n b : ℕ) → Stays ValueEnds b (λ t. value t n b))
      → (i : ℕ) → Stays PairEnds i (λ b. read.keyval b limit (skipped b) (value b) i)
  keyval_stays limit skipped kept past value each i =
      stays_after (key_stays false limit [] i)
      (λ (ps, m) j blank. stays_skipping kept (λ k s. past m j k blank s)
      (λ n o s. stays_byte (λ c. c == 61)
      (λ t. stays_skipping kept (λ k s. (let f = kept.forward (n + 1) k s in omega arith))
      (λ k p s. stays_after (each (length ps) k) (λ (v, z) x e. stays_ok _ x (omega arith) e)))
      (λ t. stays_missing expected_tokens.Equals n)))

  added_stays : (es : List ParsedAssignment) (e : ParsedAssignment) (m j : ℕ) → (parsed_span e.value).end ≤ m → m ≤ (parsed_span e.value).end + 3 → (j ≡ m) ⊎ Tail a m j → Stays (λ fs k. k ≡ j) j (λ b. read.added es e)
  added_stays es e m j l k o = go (crossing es e) refl
    where
      go : (x : Option Fault) → crossing es e ≡ x → Stays (λ fs k. k ≡ j) j (λ b r. r ≡ option_map_or (λ fault. Err fault) x (Ok (es ++ (e ∷ []))))
      go None is = stays_ok _ j (omega arith) refl
      go (Some fault) is =
          let f = fault_to es e fault is in
          stays_err fault j (rw f.is (m, l, k, o)) (λ n reach. (let q : n ≡ j + 2 = rw f.is at reach in past_two (omega arith)))

  separator_stays : {X A : Type 0} {P : A → ℕ → Type 0} (close : ℕ) (expected : ExpectedToken) (m : ℕ) (next : ℕ → X × ℕ) (end : ℕ → A) → ((p : ℕ) → p ≡ (next p).1) → ((k : ℕ) → P (end k) k)
      → Stays (Turned P) m (λ b. read.separator close expected b m next end)
  separator_stays close expected m next end at fin =
      stays_skipping gap_kept (λ k g. g.forward)
      (λ k o g. stays_byte (λ c. c == 44)
      (λ t. stays_skipping gap_kept (λ p h. (let f = h.forward in omega arith)) (λ p q h. stays_ok (on (next p)) p (omega arith) (at p)))
      (λ t. stays_byte (λ c. c == close) (λ u. stays_ok (done (end (k + 1))) (k + 1) (omega arith) (fin (k + 1))) (λ u. stays_missing expected k)))

  abbrev InnerEnds : ParsedInner × ℕ → ℕ → Type 0
  InnerEnds (v, m) j = j ≡ m

  element_stays : (element : List ℕ → ℕ → Reading ValueEnd) → ((i : ℕ) → Stays ValueEnds i (λ b. element b i)) → (s : Elements) → Stays (Turned InnerEnds) s.1 (λ b. read.next_element b (element b) s)
  element_stays element each (vs, i) =
      stays_byte (λ c. c == 93) (λ t. stays_ok _ (i + 1) (omega arith) refl)
      (λ t. stays_after (each i) (λ (v, m) j e. rw e.0 (separator_stays 93 expected_tokens.RightBracket m (λ p. (vs ++ (v ∷ []), p)) (array_end (vs ++ (v ∷ []))) (λ p. refl) (λ k. refl))))

  pair_stays : (limit : ℕ) (value : List ℕ → ℕ → ℕ → Reading ValueEnd) → ((n i : ℕ) → Stays ValueEnds i (λ b. value b n i)) → (s : Pairs) → Stays (Turned InnerEnds) s.1 (λ b. read.next_pair b limit (value b) s)
  pair_stays limit value each (es, i) =
      stays_byte (λ c. c == 125) (λ t. stays_ok _ (i + 1) (omega arith) refl)
      (λ t. stays_after (keyval_stays limit MaximalGap gap_kept (past_blanks a) value each i)
      (λ (e, m) j p. stays_after (added_stays es e m j p.1 p.2 (inl p.0))
      (λ fs k q. earlier (omega (arith, q, p.0)) (separator_stays 125 expected_tokens.Comma m (λ p. (fs, p)) (table_end fs) (λ p. refl) (λ k. refl)))))

  -- ---- values

  abbrev StringEnds : ℕ → ValueEnd → ℕ → Type 0
  StringEnds i (v, m) j = (j ≡ m) × ((parsed_span v).end ≤ m) × (m ≤ (parsed_span v).end + 3) × TokenTo a i m × (i < m)

  string_told : (i : ℕ) (t : NextToken) (j : ℕ) → IsNextToken a i t → EndsToken i t j → Told (StringEnds i) (string_of i t) j
  string_told i (token s (string src v multi) m) j h e = let l = string_span a i m s src v multi h in (e, l.0, l.1, inl (s, string src v multi, h), (token_within a i m s (string src v multi) h).0)
  string_told i (token s l m) j h e = inl (s, l, rw e h)
  string_told i text_end j h e = omega (arith, h, e)
  string_told i (no_token x) j h e = no_token_reported a i j x e

  string_takes : (i : ℕ) (t : NextToken) (j : ℕ) → IsNextToken a i t → EndsToken i t j → Takes i (string_of i) t j
  string_takes i (token s (string src v multi) m) j h e = token_takes i (string_of i) s (string src v multi) m j h e (λ n r. inl r.here)
  string_takes i (token s l m) j h e = token_takes i (string_of i) s l m j h e (λ n r. wanted_known l j n r)
  string_takes i text_end j h e = end_takes i (string_of i) j h e (λ n r. omega (arith, r))
  string_takes i (no_token x) j h e = none_takes i (string_of i) x j e refl

  string_stays : (i : ℕ) → Stays (StringEnds i) i (λ b. read.string_value b i)
  string_stays i = stays_standing i (λ t. string_of i t) (λ t j h e. (string_told i t j h e, string_takes i t j h e))

  too_deep_stays : (i : ℕ) → Stays ValueEnds i (λ b. read.too_deep b i)
  too_deep_stays i =
      stays_byte (λ c. opens_nested c || begins_bare c) (λ t. stays_err (fault_at kinds.ExceededDepthLimit i) (i + 1) (inr (omega arith, omega arith)) (λ n q. past_two (omega arith)))
      (λ t. stays_after (string_stays i) (λ (v, m) j e. stays_err (fault_at kinds.ExceededDepthLimit i) j (inl (rw (← e.0) at e.3)) (λ n q. past_two (omega (arith, e.0, e.4, q)))))

  abbrev ScalarEnds : Scalar × ℕ → ℕ → Type 0
  ScalarEnds (s, m) j = j ≡ m

  bare_stays : (i : ℕ) → begins_bare (get_or a i 0) ≡ true → Stays ScalarEnds i (λ b. read.bare b i)
  bare_stays i h = record { found = λ r g. (let (j, t, k) = bare_found a i r h g in (j, bare_told r j t, k)) }
    where
      bare_told : (r : Result (Scalar × ℕ) Fault) (j : ℕ) → ScalarTold a r j → Told ScalarEnds r j
      bare_told (Ok (s, m)) j e = e
      bare_told (Err e) j h = h

  nested_stays : (i : ℕ) (inner : List ℕ → ℕ → Reading (ParsedInner × ℕ)) → ((k : ℕ) → Stays InnerEnds k (λ b. inner b k)) → Stays ValueEnds i (λ b. read.nested b i (inner b))
  nested_stays i inner each =
      stays_skipping gap_kept (λ k g. (let f = g.forward in omega arith))
      (λ k o g. stays_after (each k) (λ (v, m) j e. stays_ok _ j (omega arith) (e, omega (arith, e), omega (arith, e))))

  value_stays : (limit left n i : ℕ) → Stays ValueEnds i (λ b. read.value b limit left n i)
  unfolding read.value
  value_stays limit zero n i = too_deep_stays i
  value_stays limit (suc left) (suc n) i = value_stays limit left n i
  value_stays limit (suc left) zero i =
      stays_byte (λ c. c == 91)
      (λ t. nested_stays i (λ b k. Loop (read.next_element b (read.value b limit left zero)) ([], k)) (λ k. stays_loop ([], k) (element_stays (λ b. read.value b limit left zero) (value_stays limit left zero))))
      (λ t. stays_byte (λ c. c == 123)
      (λ t. nested_stays i (λ b k. Loop (read.next_pair b limit (read.value b limit left)) ([], k)) (λ k. stays_loop ([], k) (pair_stays limit (λ b. read.value b limit left) (value_stays limit left))))
      (λ t. stays_byte begins_bare
      (λ t. stays_after (bare_stays i t) (λ (s, m) j e. stays_ok _ j (omega arith) (e, omega (arith, e), omega (arith, e))))
      (λ t. record { found = λ r h. (let (j, p, k) = (string_stays i).found r h in (j, string_value_told r j p, k)) })))
    where
      string_value_told : (r : Result ValueEnd Fault) (j : ℕ) → Told (StringEnds i) r j → Told ValueEnds r j
      string_value_told (Ok x) j e = (e.0, e.1, e.2)
      string_value_told (Err e) j h = h

  -- ---- lines

  abbrev LineEnds : ℕ → ℕ → ℕ → Type 0
  LineEnds i j k = (k ≡ j) × Tail a i j

  tail_stays : (i : ℕ) → Stays (LineEnds i) i (λ b. read.tail b i)
  tail_stays i = record { found = tail_found }
    where
      no_tail_forward : (k : ℕ) → NoTail a i k → i ≤ k
      no_tail_forward k h = grind (arith, common_steps, nat_tests)

      tail_found : (r : Result ℕ Fault) → read.tail a i r → Found (LineEnds i) i (λ b. read.tail b i) r
      tail_found r (inl (j, h, is)) = (
        j,
        rw is (refl, h),
        λ n reach. (
            let p : Past a n j = rw is at reach in
            (past_less (tail_forward a i j h) p, λ b w. inl (j, tail w i j p.here h, is))),
      )
      tail_found r (inr (k, none, g)) =
          let missed : Stays (LineEnds i) k (λ b. missing {A = ℕ} expected_tokens.Newline b k) = stays_missing expected_tokens.Newline k in
          let (j, t, q) = missed.found r g in (
            j,
            t,
            λ n reach. (
                let (past, holds) = q n reach in
                (past_less (no_tail_forward k none) past, λ b w. inr (k, no_tail w i k past none, holds b w))),
          )

  abbrev StateEnds : {X : Type 0} → X × ℕ → ℕ → Type 0
  StateEnds (x, m) j = j ≡ m

  line_stays : (limit i : ℕ) → Stays PairEnds i (λ b. read.keyval b limit (MaximalRun is_blank b) (read.value b limit (limit + 1)) i)
  line_stays limit i = keyval_stays limit (λ b. MaximalRun is_blank b) blanks_kept (λ i j k x y. (let e = run_unique is_blank a i j k x y in omega arith)) (λ b. read.value b limit (limit + 1)) (value_stays limit (limit + 1)) i

  assignment_stays : (limit : ℕ) (s : Pairs) → Stays (Turned StateEnds) s.1 (λ b. read.next_assignment b limit s)
  assignment_stays limit (es, i) =
      stays_choice (λ n p b w. (let l = p.here in rw (ne_eqb i (length a) (λ x. omega (arith, w.in_a)), ne_eqb i (length b) (λ x. omega (arith, w.in_b)), w.byte i l) refl))
      (λ t. stays_ok (done (es, i)) i (omega arith) refl)
      (λ t. stays_after (line_stays limit i)
      (λ (e, m) j p. (
      let rest : Stays (LineEnds m) j (λ b. read.tail b m) = earlier (omega (arith, p.0)) (tail_stays m) in
      stays_after rest
      (λ n k q. stays_after (added_stays es e m k p.1 p.2 (inr (rw (← q.0) at q.1)))
      (λ fs x y. stays_skipping gap_kept (λ k g. (let f = g.forward in omega (arith, y, q.0))) (λ z v g. stays_ok (on (fs, z)) z (omega arith) refl))))))

  lines_stays : (limit i : ℕ) → Stays StateEnds i (λ b. read.assignment_lines b limit i)
  lines_stays limit i = stays_skipping gap_kept (λ k g. g.forward) (λ k o g. stays_loop ([], k) (assignment_stays limit))

  -- ---- headers and sections

  bracket_stays : (i : ℕ) → Stays (λ m j. j ≡ m) i (λ b. read.bracket b i)
  bracket_stays i = stays_byte (λ c. c == 93) (λ t. stays_ok (i + 1) (i + 1) (omega arith) refl) (λ t. stays_missing expected_tokens.RightBracket i)

  closing_stays : (array : Bool) (i : ℕ) → Stays (λ m j. j ≡ m) i (λ b. read.closing array b i)
  closing_stays false i = bracket_stays i
  closing_stays true i = stays_after (bracket_stays i) (λ m j e. earlier (omega (arith, e)) (bracket_stays m))

  abbrev HeaderEnds : HeaderEnd → ℕ → Type 0
  HeaderEnds h j = j ≡ h.end

  heading_stays : (array : Bool) (limit h i : ℕ) → h ≤ i → Stays HeaderEnds h (λ b. read.heading array b limit i)
  heading_stays array limit h i l =
      stays_skipping blanks_kept (λ k r. (let f = r.forward in omega arith))
      (λ k o r. stays_after (key_stays true limit [] k)
      (λ (ps, m) j blank. stays_skipping blanks_kept (λ c r. (let e = run_unique is_blank a m j c blank r in omega arith))
      (λ c y r. stays_after (closing_stays array c)
      (λ m j e. (
      let rest : Stays (LineEnds m) j (λ b. read.tail b m) = earlier (omega (arith, e)) (tail_stays m) in
      stays_after rest (λ n q v. stays_ok (record { parts = ps; array = array; end = n }) q (omega arith) v.0))))))

  header_stays : (limit i : ℕ) → Stays HeaderEnds i (λ b. read.header b limit i)
  header_stays limit i = earlier (omega arith) (stays_byte {i = i + 1} (λ c. c == 91) (λ t. heading_stays true limit (i + 1) (i + 2) (omega arith)) (λ t. heading_stays false limit (i + 1) (i + 1) (omega arith)))

  section_stays : (limit i : ℕ) → Stays StateEnds i (λ b. read.section b limit i)
  section_stays limit i = stays_after (header_stays limit i) (λ h j e. (
      let lines : Stays StateEnds j (λ b. read.assignment_lines b limit h.end) = earlier (omega (arith, e)) (lines_stays limit h.end) in
      stays_after lines (λ (es, m) k q. stays_ok (read.headed_section i h es, m) k (omega arith) q)))

  next_stays : (limit : ℕ) (s : ParsedSections) → Stays (Turned (λ x j. Unit {0})) s.1 (λ b. read.next_section b limit s)
  next_stays limit (bs, i) =
      stays_choice (λ n p b w. (let l = p.here in ne_eqb i (length a) (λ x. omega (arith, w.in_a)) ∙ sym (ne_eqb i (length b) (λ x. omega (arith, w.in_b)))))
      (λ t. stays_ok (done bs) i (omega arith) tt)
      (λ t. stays_after (section_stays limit i) (λ (s, m) j e. stays_ok (on (bs ++ (s ∷ []), m)) j (omega arith) e))

  -- ---- what is read before the end of these bytes

  on_kept : {A : Type 0} {P : A → ℕ → Type 0} {i : ℕ} {m : List ℕ → Reading A} → Stays P i m → (x : A) → m a (Ok x) → (b : List ℕ) (n : ℕ) → ((j : ℕ) → P x j → Past a n j) → Same a b n → m b (Ok x)
  on_kept s x h b n past w = let (j, p, k) = s.found (Ok x) h in (k n (past j p)).1 b w

  pub value_on : (limit left i j n : ℕ) (v : ParsedValue) (b : List ℕ) → read.value a limit left zero i (Ok (v, j)) → Past a n j → Same a b n → read.value b limit left zero i (Ok (v, j))
  value_on limit left i j n v b h past w = on_kept (value_stays limit left zero i) (v, j) h b n (λ k p. rw p.0 past) w

  pub pair_on : (limit left i j n : ℕ) (e : ParsedAssignment) (b : List ℕ) → read.keyval a limit (MaximalGap a) (read.value a limit left) i (Ok (e, j)) → Past a n j → Same a b n
      → read.keyval b limit (MaximalGap b) (read.value b limit left) i (Ok (e, j))
  pair_on limit left i j n e b h past w = on_kept (keyval_stays limit MaximalGap gap_kept (past_blanks a) (λ t. read.value t limit left) (value_stays limit left) i) (e, j) h b n (λ k p. rw p.0 past) w

  pub assignment_on : (limit i j n : ℕ) (e : ParsedAssignment) (b : List ℕ) → read.keyval a limit (MaximalRun is_blank a) (read.value a limit (limit + 1)) i (Ok (e, j)) → Past a n j → Same a b n
      → read.keyval b limit (MaximalRun is_blank b) (read.value b limit (limit + 1)) i (Ok (e, j))
  assignment_on limit i j n e b h past w = on_kept (line_stays limit i) (e, j) h b n (λ k p. rw p.0 past) w

  pub key_on : (limit i j k n : ℕ) (ps : List SimpleKey) (b : List ℕ) → read.key false a limit [] i (Ok (ps, j)) → MaximalRun is_blank a j k → Past a n k → Same a b n → read.key false b limit [] i (Ok (ps, j))
  key_on limit i j k n ps b h blank past w = on_kept (key_stays false limit [] i) (ps, j) h b n (λ l r. (let e : l ≡ k = run_unique is_blank a j l k r blank in rw e past)) w

  pub header_on : (limit i n : ℕ) (x : HeaderEnd) (b : List ℕ) → read.header a limit i (Ok x) → Past a n x.end → Same a b n → read.header b limit i (Ok x)
  header_on limit i n x b h past w = on_kept (header_stays limit i) x h b n (λ k e. rw e past) w

  pub section_on : (limit i j n : ℕ) (x : ParsedSection) (b : List ℕ) → read.section a limit i (Ok (x, j)) → Past a n j → Same a b n → read.section b limit i (Ok (x, j))
  section_on limit i j n x b h past w = on_kept (section_stays limit i) (x, j) h b n (λ k e. rw e past) w

  -- ---- the document, where the place after a byte order mark depends only on these bytes, too

  module _ (first : (i n : ℕ) (b : List ℕ) → FirstPlace a i → Past a n i → Same a b n → FirstPlace b i) where
    before_stays : (limit : ℕ) → Stays StateEnds 0 (λ b. read.before_headers b limit)
    before_stays limit = record {
      found = λ r (i, f, g). (
          let lines : Stays StateEnds i (λ b. after (read.assignment_lines b limit i) (λ (es, j) r. r ≡ Ok (headerless_section es, j))) = stays_after (lines_stays limit i) (λ (es, m) j e. stays_ok _ j (omega arith) e) in
          let (j, t, k) = lines.found r g in (
            j,
            t,
            λ n reach. (
                let (past, holds) = k n reach in
                (past_less (omega arith) past, λ b w. (i, first i n b f past w, holds b w))),
          ));
    }

    document_stays : (limit : ℕ) → Stays (λ x j. Unit {0}) 0 (λ b. read.document b limit)
    unfolding read.document
    document_stays limit = stays_after (before_stays limit) (λ (bs, m) j e. earlier (omega (arith, e)) (stays_loop (bs, m) (next_stays limit)))

    pub document_found : (limit : ℕ) (fault : Fault) → read.document a limit (Err fault) → (j : ℕ) × EndsReported a fault j × ((b : List ℕ) → Same a b (j + ahead fault.kind) → read.document b limit (Err fault))
    document_found limit fault h = let (j, t, k) = (document_stays limit).found (Err fault) h in (j, t, (k (j + ahead fault.kind) refl).1)
