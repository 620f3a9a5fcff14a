-- The pieces of a scalar, and of a key.
use Rattle.toml_span_lex.proofs.Common.{◌≡◌, ℕ, zero, suc, ◌+◌, ◌-◌, ◌<◌, ◌≤◌, ◌⊎◌, Bool, true, false, ◌==◌, List, [], ◌∷◌, get_or, drop, prefix_len, arith, inl, inr, refl, sym, subst, ◌∙◌, nat_tests, common_steps, cases_lt, false≢true, and_parts}
use Rattle.std.specs.Char.{is_ascii_digit}
use Rattle.toml_span_lex.specs.Bytes.{is_blank, is_keylike, MaximalRun}
use Rattle.toml_span_lex.specs.Tokens.{string}
use Rattle.toml_span_lex.specs.declared.span.Span.{Span}
use Rattle.toml_span_lex.proofs.Runs.{run_forward}
use Rattle.toml_span_tree.specs.Node.{Scalar, text as text_scalar, integer, float, boolean, datetime}
use Rattle.toml_span_read.specs.Data.{SimpleKey}
use Rattle.toml_span_read.specs.Dates.{is_date_byte, continues_date, IsCandidate}
use Rattle.toml_span_read.specs.Gaps.{Dot}
use Rattle.toml_span_read.specs.Grammar.{SpellsScalar}
use Rattle.toml_span_read.specs.Keys.{SpellsSimpleKey, Onward, SpellsKey}
use Rattle.toml_span_read.proofs.NumberLemmas.{here, run_found, byte_is}
use Rattle.toml_span_syntax.specs.declared.pieces.Kind.{Kind}
use Rattle.toml_span_syntax.specs.declared.pieces.Kind.TheVariants as kinds
use Rattle.toml_span_syntax.specs.declared.pieces.Piece.{Piece}
use Rattle.toml_span_syntax.specs.declared.heads.Head.{Head}
use Rattle.toml_span_syntax.specs.declared.heads.Head.TheVariants as heads
use Rattle.toml_span_syntax.specs.declared.heads.StatementKind.{StatementKind}
use Rattle.toml_span_syntax.specs.declared.heads.StatementKind.TheVariants as is
use Rattle.toml_span_syntax.specs.Heads.{next, kind_from, kind_of}
use Rattle.toml_span_syntax.proofs.Lists.{known_stays}
use Rattle.toml_span_laws.proofs.DateBytes.{Dated, number_dated}
use Rattle.toml_span_laws.proofs.Going.{top, On, on_step, Done, rest_blank, IsUnreadable}
use Rattle.toml_span_laws.proofs.KeptScalars.{candidate_stops, number_stops}
use Rattle.toml_span_laws.proofs.Pieced.{piece, After, Each, token_each, mark_each, bare_each, blanks_each}
use Rattle.toml_span_laws.proofs.ScalarEnds.{scalar_some}

date_byte : (c : ℕ) → is_date_byte c ≡ true → (is_keylike c ≡ true) ⊎ ((c ≡ 58) ⊎ ((c ≡ 46) ⊎ (c ≡ 43)))
date_byte c h = grind (arith, nat_tests, common_steps)

digit_unblank : (c : ℕ) → is_ascii_digit c ≡ true → is_blank c ≡ false
digit_unblank c h = grind (arith, nat_tests, common_steps)

spaced : (text : List ℕ) (i : ℕ) → continues_date text (i + 10) ≡ true → (get_or text (i + 10) 0 ≡ 32) × (is_ascii_digit (get_or text (i + 11) 0) ≡ true)
spaced text i h =
    let p = and_parts (get_or text (i + 10) 0 == 32) (is_ascii_digit (get_or text (i + 10 + 1) 0)) h in
    let e : i + 10 + 1 ≡ i + 11 = omega arith in
    (byte_is (get_or text (i + 10) 0) 32 p.0, rw e at p.1)

-- no more of a run than before a byte that does not pass
run_within : (text : List ℕ) (i k j : ℕ) → MaximalRun is_keylike text i k → i ≤ j → is_keylike (get_or text j 0) ≡ false → k ≤ j
run_within text i k j r l h = elim (cases_lt j k) [ inl low ↦ absurd (false≢true (sym h ∙ r.passes j l low)) | inr high ↦ high ]

module _ (text : List ℕ) (e : ℕ) (b : Bool) (n : ℕ) (few : n < top) where
  -- ---- words

  -- the pieces of a value, which no line can begin with as a head
  abbrev IsWord : List Piece → Type 0
  IsWord ps = Done text e b n ps × IsUnreadable (kind_of ps)

  bare_word : After (Done text e b n) kinds.Bare IsWord
  unfolding kind_from next
  bare_word i j ps (on, (after, part)) = ((λ last. on_step text e b n last (piece kinds.Bare i j) ps few refl (on kinds.Bare), (known_stays is.Unreadable ps, after)), after)

  point_word : After (Done text e b n) (kinds.Mark 46) IsWord
  unfolding kind_from next
  point_word i j ps (on, (after, part)) = ((λ last. on_step text e b n last (piece (kinds.Mark 46) i j) ps few refl (on (kinds.Mark 46)), (part, known_stays is.Unreadable ps)), known_stays is.Unreadable ps)

  colon_word : After (Done text e b n) (kinds.Mark 58) IsWord
  unfolding kind_from next
  colon_word i j ps (on, (after, part)) = let u = known_stays is.Unreadable ps in ((λ last. on_step text e b n last (piece (kinds.Mark 58) i j) ps few refl (on (kinds.Mark 58)), (u, u)), u)

  plus_word : After (Done text e b n) (kinds.Mark 43) IsWord
  unfolding kind_from next
  plus_word i j ps (on, (after, part)) = let u = known_stays is.Unreadable ps in ((λ last. on_step text e b n last (piece (kinds.Mark 43) i j) ps few refl (on (kinds.Mark 43)), (u, u)), u)

  string_word : (multi : Bool) → After (Done text e b n) (kinds.String multi) IsWord
  unfolding kind_from next
  string_word false i j ps (on, (after, part)) = ((λ last. on_step text e b n last (piece (kinds.String false) i j) ps few refl (on (kinds.String false)), (known_stays is.Unreadable ps, after)), after)
  string_word true i j ps (on, (after, part)) = let u = known_stays is.Unreadable ps in ((λ last. on_step text e b n last (piece (kinds.String true) i j) ps few refl (on (kinds.String true)), (u, u)), u)

  done_blank : After (Done text e b n) kinds.Blank (Done text e b n)
  done_blank i j ps (on, rest) = (λ last. on_step text e b n last (piece kinds.Blank i j) ps few refl (on last), rest_blank IsUnreadable i j ps rest)

  -- the pieces of bytes of dates, of which there may be none
  abbrev IsWords : ℕ → ℕ → List Piece → Type 0
  IsWords i j ps = Done text e b n ps × (i < j → IsUnreadable (kind_of ps))

  words : (fuel i j : ℕ) → i ≤ j → j ≤ i + fuel → Dated text i j → is_keylike (get_or text j 0) ≡ false → Each text j (Done text e b n) → Each text i (IsWords i j)
  words zero i j l m dated stop f = subst (λ k. Each text k (IsWords k j)) (omega arith) (λ ps h. (f ps h, λ x. absurd (omega (arith, x))))
  words (suc fuel) i j l m dated stop f = elim (cases_lt i j) [
    | inr none ↦ subst (λ k. Each text k (IsWords k j)) (omega arith) (λ ps h. (f ps h, λ x. absurd (omega (arith, x))))
    | inl some ↦ elim (date_byte (get_or text i 0) (dated i (omega arith) some)) [
      | inl byte ↦
          let inside = here is_keylike text i refl byte in
          let k : ℕ = i + prefix_len is_keylike (drop i text) in
          let run : MaximalRun is_keylike text i k = run_found is_keylike text i (omega arith) in
          let forward : i < k = run_forward is_keylike text i k inside byte run in
          let within : k ≤ j = run_within text i k j run l stop in
          let more = words fuel k j within (omega arith) (λ x y z. dated x (omega arith) z) stop f in
          bare_each text i k (IsWords i j) forward run (λ qs g. let w = bare_word i k qs (more qs g).0 in (w.0, λ x. w.1))
      | inr (inl byte) ↦ mark_each text 58 i (IsWords i j) byte refl (λ qs g. let w = colon_word i (i + 1) qs (words fuel (i + 1) j (omega arith) (omega arith) (λ x y z. dated x (omega arith) z) stop f qs g).0 in (w.0, λ x. w.1))
      | inr (inr (inl byte)) ↦ mark_each text 46 i (IsWords i j) byte refl (λ qs g. let w = point_word i (i + 1) qs (words fuel (i + 1) j (omega arith) (omega arith) (λ x y z. dated x (omega arith) z) stop f qs g).0 in (w.0, λ x. w.1))
      | inr (inr (inr byte)) ↦ mark_each text 43 i (IsWords i j) byte refl (λ qs g. let w = plus_word i (i + 1) qs (words fuel (i + 1) j (omega arith) (omega arith) (λ x y z. dated x (omega arith) z) stop f qs g).0 in (w.0, λ x. w.1))
    ]
  ]

  some_words : (i j : ℕ) → i < j → Dated text i j → is_keylike (get_or text j 0) ≡ false → Each text j (Done text e b n) → Each text i IsWord
  some_words i j l dated stop f ps h = let w = words (j - i) i j (omega arith) (omega arith) dated stop f ps h in (w.0, w.1 l)

  date_words : (i j : ℕ) → i < j → IsCandidate text i j → Each text j (Done text e b n) → Each text i IsWord
  date_words i j l (inl (r, h)) f = some_words i j l r.passes (candidate_stops text i j (inl (r, h))).1 f
  date_words i j l (inr (r, c, s)) f =
      let stop = (candidate_stops text i j (inr (r, c, s))).1 in
      let (space, digit) = spaced text i c in
      let blank : MaximalRun is_blank text (i + 10) (i + 11) = record {
        forward = omega arith;
        within = omega (arith, s.forward, s.within);
        passes = λ k x y. let same : k ≡ i + 10 = omega (arith, x, y) in rw (same, space) refl;
        stops = λ x. digit_unblank (get_or text (i + 11) 0) digit;
      } in
      let time : Each text (i + 11) (Done text e b n) = λ ps h. (words (j - (i + 11)) (i + 11) j s.forward (omega (arith, s.forward)) s.passes stop f ps h).0 in
      some_words i (i + 10) (omega arith) r.passes (rw space refl) (blanks_each text (i + 10) (i + 11) (Done text e b n) done_blank blank time)

  pub scalar_on : (s : Scalar) (span : Span) (i j : ℕ) → SpellsScalar s span text i j → Each text j (Done text e b n) → Each text i IsWord
  scalar_on (text_scalar v) span i j (source, multi, h) f = token_each text i j span (string source v multi) IsWord h (λ qs g. string_word multi i j qs (f qs g))
  scalar_on (boolean x) span i j (run, same) f = bare_each text i j IsWord run.0 run.1 (λ qs g. bare_word i j qs (f qs g))
  scalar_on (datetime d) span i j (begins, c, valid, same, is) f =
      date_words i j (rw is at (scalar_some (datetime d) span text i j (begins, c, valid, same, is))) c f
  scalar_on (integer m) span i j (begins, h, is) f =
      some_words i j (rw is at (scalar_some (integer m) span text i j (begins, h, is))) (number_dated (integer m) text i j h) (number_stops (integer m) text i j h) f
  scalar_on (float x) span i j (begins, h, is) f =
      some_words i j (rw is at (scalar_some (float x) span text i j (begins, h, is))) (number_dated (float x) text i j h) (number_stops (float x) text i j h) f

  -- ---- keys

  module _ (Q : StatementKind → Type 0) where
    -- in a key, with what is known of the head
    abbrev pub Keyed : Head → List Piece → Type 0
    Keyed head ps = ((last : Kind) → On text e b n last ps) × Q (kind_from head ps)

    part_on : (brackets : ℕ) (head : Head) → next head kinds.Bare ≡ heads.After brackets → next head (kinds.String false) ≡ heads.After brackets → (s : SimpleKey) (i m : ℕ) → SpellsSimpleKey s text i m → Each text m (Keyed (heads.After brackets)) → Each text i (Keyed head)
    unfolding kind_from
    part_on brackets head x y s i m (inl (run, same)) f =
        bare_each text i m (Keyed head) run.0 run.1 (λ qs g. (λ last. on_step text e b n last (piece kinds.Bare i m) qs few refl ((f qs g).0 kinds.Bare), rw x (f qs g).1))
    part_on brackets head x y s i m (inr (source, h)) f =
        token_each text i m s.span (string source s.name false) (Keyed head) h (λ qs g. (λ last. on_step text e b n last (piece (kinds.String false) i m) qs few refl ((f qs g).0 (kinds.String false)), rw y (f qs g).1))

    after_blank : (brackets : ℕ) → After (Keyed (heads.After brackets)) kinds.Blank (Keyed (heads.After brackets))
    unfolding kind_from next
    after_blank brackets i j ps (on, q) = (λ last. on_step text e b n last (piece kinds.Blank i j) ps few refl (on last), q)

    part_blank : (brackets : ℕ) → After (Keyed (heads.Part brackets)) kinds.Blank (Keyed (heads.Part brackets))
    unfolding kind_from next
    part_blank brackets i j ps (on, q) = (λ last. on_step text e b n last (piece kinds.Blank i j) ps few refl (on last), q)

    dot_on : (brackets m p : ℕ) → Dot text m p → Each text p (Keyed (heads.Part brackets)) → Each text m (Keyed (heads.After brackets))
    unfolding kind_from next
    dot_on brackets m p dot f =
        blanks_each text m dot.at (Keyed (heads.After brackets)) (after_blank brackets) dot.before
        (mark_each text 46 dot.at (Keyed (heads.After brackets)) dot.here refl
        (λ qs g. let r = blanks_each text (dot.at + 1) p (Keyed (heads.Part brackets)) (part_blank brackets) dot.after f qs g in (λ last. on_step text e b n last (piece (kinds.Mark 46) dot.at (dot.at + 1)) qs few refl (r.0 (kinds.Mark 46)), r.1)))

    onward_on : (ss : List SimpleKey) (brackets m j : ℕ) → Onward ss text m j → Each text j (Keyed (heads.After brackets)) → Each text m (Keyed (heads.After brackets))
    unfolding next
    onward_on [] brackets m j (same, none) f = subst (λ k. Each text k (Keyed (heads.After brackets))) same f
    onward_on (s ∷ ss) brackets m j (p, q, dot, part, rest) f =
        dot_on brackets m p dot (part_on brackets (heads.Part brackets) refl refl s p q part (onward_on ss brackets q j rest f))

    pub key_on : (brackets : ℕ) (head : Head) → next head kinds.Bare ≡ heads.After brackets → next head (kinds.String false) ≡ heads.After brackets → (ss : List SimpleKey) (i j : ℕ) → SpellsKey ss text i j → Each text j (Keyed (heads.After brackets)) → Each text i (Keyed head)
    key_on brackets head x y [] i j h f = absurd h
    key_on brackets head x y (s ∷ ss) i j (m, part, rest) f = part_on brackets head x y s i m part (onward_on ss brackets m j rest f)
