-- Values, the rest of a line, assignments and headers as parts of statements.
use Rattle.toml_span_lex.proofs.Common.{◌≡◌, ℕ, ◌+◌, ◌-◌, ◌<◌, ◌⊎◌, Bool, true, false, not, ◌==◌, ◌||◌, min, if◌then◌else◌, List, [], ◌∷◌, length, get_or, arith, inl, inr, refl, sym, subst, ◌∙◌, nat_tests, common_steps, false≢true}
use Rattle.toml_span_lex.specs.Bytes.{is_keylike, is_printed}
use Rattle.toml_span_read.specs.Data.{SimpleKey, ParsedValue, parsed, ParsedInner, scalar, array, inline, ParsedItems, no_items, item, ParsedPairs, no_pairs, pair, ParsedAssignment}
use Rattle.toml_span_lex.specs.declared.span.Span.{Span}
use Rattle.toml_span_lex.specs.Tokens.{string}
use Rattle.toml_span_read.specs.Faults.{begins_bare}
use Rattle.toml_span_read.specs.Gaps.{MaximalGap, AfterLines, Separator, Closes, Tail}
use Rattle.toml_span_read.specs.Grammar.{SpellsScalar, SpellsWith, InnerWith, ItemsWith, PairsWith, AssignmentWith, HeaderFront, SpellsHeader, OpensHeader}
use Rattle.toml_span_read.specs.Keys.{opens_string, SpellsKey}
use Rattle.toml_span_syntax.specs.declared.pieces.Kind.{Kind}
use Rattle.toml_span_syntax.specs.declared.pieces.Kind.TheVariants as kinds
use Rattle.toml_span_syntax.specs.declared.pieces.Piece.{Piece}
use Rattle.toml_span_syntax.specs.declared.heads.Head.{Head}
use Rattle.toml_span_syntax.specs.declared.heads.Head.TheVariants as heads
use Rattle.toml_span_syntax.specs.declared.heads.StatementKind.{StatementKind}
use Rattle.toml_span_syntax.specs.declared.heads.StatementKind.TheVariants as is
use Rattle.toml_span_syntax.specs.Heads.{is_mark, is_part, next, at_end, kind_from, kind_of}
use Rattle.toml_span_syntax.specs.Statements.{may_follow, is_bracketed, begins_bracket}
use Rattle.toml_span_laws.specs.Statements.{offset, past_blanks}
use Rattle.toml_span_syntax.proofs.Lists.{known_stays}
use Rattle.toml_span_laws.proofs.Complete.{scalar_byte}
use Rattle.toml_span_laws.proofs.Going.{top, On, on_step, on_last, on_end, Clear, IsUnreadable, Done, Gap, gap_on}
use Rattle.toml_span_laws.proofs.Pieced.{piece, After, Each, end_each, token_each, bare_each, mark_each, line_each, blanks_each, skipped_each}
use Rattle.toml_span_laws.proofs.Words.{scalar_on, Keyed, key_on}

-- ---- the first bytes of values and keys

printed_value : (c : ℕ) → (begins_bare c || opens_string c) ≡ true → is_printed c ≡ true
printed_value c h = grind (arith, nat_tests, common_steps)

printed_keylike : (c : ℕ) → is_keylike c ≡ true → is_printed c ≡ true
printed_keylike c h = grind (arith, nat_tests, common_steps)

value_printed : (v : ParsedValue) (text : List ℕ) (limit d i j : ℕ) → SpellsWith SpellsScalar v text limit d i j → is_printed (get_or text i 0) ≡ true
value_printed (parsed (scalar s) span) text limit d i j h = printed_value (get_or text i 0) (scalar_byte s span text i j h.1)
value_printed (parsed (array vs) span) text limit d i j h = rw (h.1.0) refl
value_printed (parsed (inline ps) span) text limit d i j h = rw (h.1.0) refl

pub key_printed : (ss : List SimpleKey) (text : List ℕ) (i j : ℕ) → SpellsKey ss text i j → is_printed (get_or text i 0) ≡ true
key_printed [] text i j h = absurd h
key_printed (s ∷ ss) text i j (m, inl (run, same), rest) = printed_keylike (get_or text i 0) (run.1.passes i (omega arith) run.0)
key_printed (s ∷ ss) text i j (m, inr (source, h), rest) = elim h.quote [ inl q ↦ rw q refl | inr q ↦ rw q refl ]

key_some : (ss : List SimpleKey) (text : List ℕ) (i j : ℕ) → SpellsKey ss text i j → 0 < length ss
key_some [] text i j h = absurd h
key_some (s ∷ ss) text i j h = omega arith

items_printed : (text : List ℕ) (vs : ParsedItems) (limit d i j : ℕ) → ItemsWith SpellsScalar vs text limit d i j → is_printed (get_or text i 0) ≡ true
items_printed text no_items limit d i j h = rw (h.0) refl
items_printed text (item v vs) limit d i j (m, h, after) = value_printed v text limit d i m h

pairs_printed : (text : List ℕ) (ps : ParsedPairs) (es : List ParsedAssignment) (limit d i j : ℕ) → PairsWith SpellsScalar ps es text limit d i j → is_printed (get_or text i 0) ≡ true
pairs_printed text no_pairs es limit d i j h = rw (h.0) refl
pairs_printed text (pair ss v extent ps) es limit d i j (m, (a, b, key, parts, sep, h, span_is), clear, more) = key_printed ss text i a key

-- ---- what begins with a bracket is a header, or unreadable

bracketed : Head → Bool
bracketed heads.Bracket = true
bracketed (heads.Part b) = not (b == 0)
bracketed (heads.After b) = not (b == 0)
bracketed heads.Half = true
bracketed heads.Closed = true
bracketed (heads.Known is.Header) = true
bracketed (heads.Known is.Unreadable) = true
bracketed _ = false

either : (P : Head → Type 0) (b : Bool) (x y : Head) → P x → P y → P (if b then x else y)
either P true x y h k = h
either P false x y h k = k

abbrev IsBracketed : Head → Type 0
IsBracketed head = bracketed head ≡ true

unread : IsBracketed (heads.Known is.Unreadable)
unfolding bracketed
unread = refl

closed : IsBracketed heads.Closed
unfolding bracketed
closed = refl

header : IsBracketed (heads.Known is.Header)
unfolding bracketed
header = refl

half : IsBracketed heads.Half
unfolding bracketed
half = refl

parts_bracketed : (b : ℕ) → (b == 0) ≡ false → IsBracketed (heads.Part b) × IsBracketed (heads.After b)
unfolding bracketed
parts_bracketed b h = rw h (refl, refl)

part_after : (b : ℕ) → (IsBracketed (heads.Part b) → IsBracketed (heads.After b)) × (IsBracketed (heads.After b) → IsBracketed (heads.Part b))
unfolding bracketed
part_after b = (λ h. h, λ h. h)

-- an equals sign after a part of a header
no_assignment : (b : ℕ) → IsBracketed (heads.After b) → IsBracketed (if b == 0 then heads.Known is.Assignment else heads.Known is.Unreadable)
unfolding bracketed
no_assignment b h = let e : (b == 0) ≡ false = grind (arith, nat_tests, common_steps) in rw e refl

no_start : bracketed heads.Start ≡ false
unfolding bracketed
no_start = refl

stays_bracketed : (head : Head) (kind : Kind) → IsBracketed head → IsBracketed (next head kind)
unfolding next
stays_bracketed heads.Start kind h = absurd (false≢true (sym no_start ∙ h))
stays_bracketed heads.Bracket kind h = either IsBracketed _ _ _ (parts_bracketed 1 refl).0 (either IsBracketed _ _ _ (parts_bracketed 2 refl).0 (either IsBracketed _ _ _ (parts_bracketed 1 refl).1 unread))
stays_bracketed (heads.Part b) kind h = either IsBracketed _ _ _ h (either IsBracketed _ _ _ ((part_after b).0 h) unread)
stays_bracketed (heads.After b) kind h =
    either IsBracketed (Rattle.toml_span_syntax.specs.Heads.is_blank kind) _ _ h
    (either IsBracketed (is_mark 46 kind) _ _ ((part_after b).1 h) (either IsBracketed (is_mark 61 kind) _ _ (no_assignment b h)
    (either IsBracketed (is_mark 93 kind) _ _ (either IsBracketed (b == 1) _ _ closed (either IsBracketed (b == 2) _ _ half unread)) unread)))
stays_bracketed heads.Half kind h = either IsBracketed _ _ _ unread (either IsBracketed _ _ _ closed unread)
stays_bracketed heads.Closed kind h = either IsBracketed _ _ _ closed (either IsBracketed _ _ _ header unread)
stays_bracketed (heads.Known known) kind h = either IsBracketed _ _ _ h h

bracketed_end : (last : Kind) (head : Head) → may_follow last is.Header ≡ true → bracketed head ≡ true → may_follow last (at_end head) ≡ true
unfolding bracketed
bracketed_end last heads.Start m h = refl
bracketed_end last heads.Bracket m h = refl
bracketed_end last (heads.Part b) m h = refl
bracketed_end last (heads.After b) m h = refl
bracketed_end last heads.Half m h = refl
bracketed_end last heads.Closed m h = m
bracketed_end last (heads.Known is.Header) m h = m
bracketed_end last (heads.Known is.Unreadable) m h = refl
bracketed_end last (heads.Known is.Blank) m h = refl
bracketed_end last (heads.Known is.Assignment) m h = absurd (false≢true h)

bracketed_follows : (last : Kind) (head : Head) (ps : List Piece) → may_follow last is.Header ≡ true → bracketed head ≡ true → may_follow last (kind_from head ps) ≡ true
unfolding kind_from
bracketed_follows last head [] m h = bracketed_end last head m h
bracketed_follows last head (p ∷ ps) m h = bracketed_follows last (next head p.kind) ps m (stays_bracketed head p.kind h)

bracket_clear : (last : Kind) (i j : ℕ) (ps : List Piece) → may_follow last is.Header ≡ true → Clear last (piece (kinds.Mark 91) i j ∷ ps)
unfolding kind_from next bracketed
bracket_clear last i j ps m = bracketed_follows last heads.Bracket ps m refl

-- ---- where a statement begins
-- the pieces begin at i, with no bracket
abbrev First : List ℕ → ℕ → List Piece → Type 0
First text i ps = (offset text (past_blanks ps) ≡ i) × (is_bracketed ps ≡ false) × (begins_bracket ps ≡ false)

pub key_first : (text : List ℕ) (ss : List SimpleKey) (i j : ℕ) → SpellsKey ss text i j → Each text i (First text i)
key_first text [] i j h = absurd h
key_first text (s ∷ ss) i j (m, inl (run, same), rest) = bare_each text i m (First text i) run.0 run.1 (λ qs g. (refl, refl, refl))
key_first text (s ∷ ss) i j (m, inr (source, h), rest) = token_each text i m s.span (string source s.name false) (First text i) h (λ qs g. (refl, refl, refl))

pub bracket_first : (text : List ℕ) (i j : ℕ) (array : Bool) → OpensHeader array text i j → Each text i (λ ps. offset text (past_blanks ps) ≡ i)
bracket_first text i j false h = mark_each text 91 i (λ ps. offset text (past_blanks ps) ≡ i) h.0 refl (λ qs g. refl)
bracket_first text i j true h = mark_each text 91 i (λ ps. offset text (past_blanks ps) ≡ i) h.0 refl (λ qs g. refl)

-- ---- values

-- after what a value may begin with a bracket, and what a pair may follow
abbrev Opens : Kind → Type 0
Opens last = may_follow last is.Header ≡ true

abbrev Pairs : Kind → Type 0
Pairs last = may_follow last is.Assignment ≡ true

abbrev Every : Kind → Type 0
Every last = Unit {0}

abbrev Any : StatementKind → Type 0
Any kind = Unit {0}

module _ (text : List ℕ) (e : ℕ) where
  -- after a gap, the closing bracket
  close_mark : (c : ℕ) → (c ≡ 93) ⊎ (c ≡ 125) → (n i : ℕ) → n + 1 < top → get_or text i 0 ≡ c → Each text (i + 1) (Done text e false n) → Each text i (Gap text e Every IsUnreadable (n + 1))
  unfolding kind_from next
  close_mark c (inl is93) n i few h f =
      mark_each text 93 i (Gap text e Every IsUnreadable (n + 1)) (h ∙ is93) refl (λ qs g.
      let d = f qs g in
      let u = known_stays is.Unreadable qs in
      let same : n ≡ n + 1 - 1 = omega arith in
      (λ last l. (on_step text e false (n + 1) last (piece (kinds.Mark 93) i (i + 1)) qs few refl (subst (λ m. On text e false m (kinds.Mark 93) qs) same (d.0 (kinds.Mark 93))), rw u refl), (u, u)))
  close_mark c (inr is125) n i few h f =
      mark_each text 125 i (Gap text e Every IsUnreadable (n + 1)) (h ∙ is125) refl (λ qs g.
      let d = f qs g in
      let u = known_stays is.Unreadable qs in
      let same : n ≡ n + 1 - 1 = omega arith in
      (λ last l. (on_step text e false (n + 1) last (piece (kinds.Mark 125) i (i + 1)) qs few refl (subst (λ m. On text e false m (kinds.Mark 125) qs) same (d.0 (kinds.Mark 125))), rw u refl), (u, u)))

  -- after a value, a gap
  after_value : (n i j : ℕ) → n + 1 < top → MaximalGap text i j → AfterLines text j → Each text j (Gap text e Every IsUnreadable (n + 1)) → Each text i (Done text e false (n + 1))
  after_value n i j few gap after f ps h =
      let g = gap_on text e Every IsUnreadable refl (n + 1) (omega arith) few i j gap after f ps h in (λ last. (g.0 last tt).0, g.1)

  closing : (c : ℕ) → is_printed c ≡ true → (c ≡ 93) ⊎ (c ≡ 125) → (n i j : ℕ) → n + 1 < top → Closes c text i j → Each text j (Done text e false n) → Each text i (Done text e false (n + 1))
  closing c printed which n i j few closes f =
      after_value n i closes.at few closes.before (inr (rw (closes.here) printed))
      (close_mark c which n closes.at few closes.here (subst (λ k. Each text k (Done text e false n)) closes.ends f))

  -- a comma, and the next element or pair
  comma_on : (L : Kind → Type 0) → L (kinds.Mark 44) → (n i j : ℕ) → n + 1 < top → Separator 44 text i j → AfterLines text j → Each text j (Gap text e L Any (n + 1)) → Each text i (Done text e false (n + 1))
  unfolding kind_from next
  comma_on L first n i j few sep after f =
      after_value n i sep.at few sep.before (inr (rw (sep.here) refl))
      (mark_each text 44 sep.at (Gap text e Every IsUnreadable (n + 1)) sep.here refl (λ qs g.
      let r = gap_on text e L Any tt (n + 1) (omega arith) few (sep.at + 1) j sep.after after f qs g in
      let u = known_stays is.Unreadable qs in
      (λ last l. (on_step text e false (n + 1) last (piece (kinds.Mark 44) sep.at (sep.at + 1)) qs few refl (r.0 (kinds.Mark 44) first).0, rw u refl), (u, u))))

  -- an equals sign between gaps, and the value
  equals_on : (Q : StatementKind → Type 0) → Q is.Unreadable → Q is.Assignment → (n i j : ℕ) → n + 1 < top → Separator 61 text i j → AfterLines text j → Each text j (Gap text e Opens Any (n + 1)) → Each text i (Gap text e Every Q (n + 1))
  unfolding kind_from next
  equals_on Q q assigned n i j few sep after f =
      gap_on text e Every Q q (n + 1) (omega arith) few i sep.at sep.before (inr (rw (sep.here) refl))
      (mark_each text 61 sep.at (Gap text e Every Q (n + 1)) sep.here refl (λ qs g.
      let r = gap_on text e Opens Any tt (n + 1) (omega arith) few (sep.at + 1) j sep.after after f qs g in
      (λ last l. (on_step text e false (n + 1) last (piece (kinds.Mark 61) sep.at (sep.at + 1)) qs few refl (r.0 (kinds.Mark 61) refl).0, rw (known_stays is.Unreadable qs) refl), (rw (known_stays is.Assignment qs) assigned, rw (known_stays is.Unreadable qs) q))))

  mutual
    unfolding kind_from next

    pub value_on : (v : ParsedValue) (limit d n i j : ℕ) → limit < top → n < d → SpellsWith SpellsScalar v text limit d i j → Each text j (Done text e false n) → Each text i (Gap text e Opens Any n)
    value_on (parsed x span) limit d n i j w l (few, h) f = inner_on x span limit d n i j w l (omega (arith, few)) h f

    inner_on : (x : ParsedInner) (span : Span) (limit d n i j : ℕ) → limit < top → n < d → n + 1 < top → InnerWith SpellsScalar x span text limit d i j → Each text j (Done text e false n) → Each text i (Gap text e Opens Any n)
    inner_on (scalar s) span limit d n i j w l few h f = λ ps g.
        let word = scalar_on text e false n (omega arith) s span i j h f ps g in (λ last m. (word.0.0 last, rw (word.1) refl), (tt, tt))
    inner_on (array vs) span limit d n i j w l few (here, span_is, k, gap, items) f =
        let inside = items_on vs limit (d + 1) n k j w (omega arith) few items f in
        mark_each text 91 i (Gap text e Opens Any n) here refl (λ qs g.
        let r = gap_on text e Opens Any tt (n + 1) (omega arith) few (i + 1) k gap (inr (items_printed text vs limit (d + 1) k j items)) inside qs g in
        let same : n + 1 ≡ min (n + 1) top = omega arith in
        (λ last m. (on_step text e false n last (piece (kinds.Mark 91) i (i + 1)) qs (omega arith) refl (subst (λ x. On text e false x (kinds.Mark 91) qs) same (r.0 (kinds.Mark 91) refl).0), bracket_clear last i (i + 1) qs m), (tt, tt)))
    inner_on (inline pairs) span limit d n i j w l few (here, span_is, k, gap, inner) f =
        let inside = pairs_on pairs [] limit (d + 1) n k j w (omega arith) few inner f in
        mark_each text 123 i (Gap text e Opens Any n) here refl (λ qs g.
        let r = gap_on text e Pairs Any tt (n + 1) (omega arith) few (i + 1) k gap (inr (pairs_printed text pairs [] limit (d + 1) k j inner)) inside qs g in
        let same : n + 1 ≡ min (n + 1) top = omega arith in
        (λ last m. (on_step text e false n last (piece (kinds.Mark 123) i (i + 1)) qs (omega arith) refl (subst (λ x. On text e false x (kinds.Mark 123) qs) same (r.0 (kinds.Mark 123) refl).0), rw (known_stays is.Unreadable qs) refl), (tt, tt)))

    items_on : (vs : ParsedItems) (limit d n i j : ℕ) → limit < top → n + 1 < d → n + 1 < top → ItemsWith SpellsScalar vs text limit d i j → Each text j (Done text e false n) → Each text i (Gap text e Opens Any (n + 1))
    items_on no_items limit d n i j w l few (here, past) f = λ ps g.
        let r = close_mark 93 (inl refl) n i few here (subst (λ k. Each text k (Done text e false n)) past f) ps g in (λ last m. r.0 last tt, (tt, tt))
    items_on (item v vs) limit d n i j w l few (m, h, after) f =
        value_on v limit d (n + 1) i m w l h (elim after [
          | inl (last, closes) ↦ closing 93 refl (inl refl) n m j few closes f
          | inr (p, sep, more) ↦ comma_on Opens refl n m p few sep (inr (items_printed text vs limit d p j more)) (items_on vs limit d n p j w l few more f)
        ])

    pairs_on : (ps : ParsedPairs) (es : List ParsedAssignment) (limit d n i j : ℕ) → limit < top → n + 1 < d → n + 1 < top → PairsWith SpellsScalar ps es text limit d i j → Each text j (Done text e false n) → Each text i (Gap text e Pairs Any (n + 1))
    pairs_on no_pairs es limit d n i j w l few (here, past) f = λ ps g.
        let r = close_mark 125 (inr refl) n i few here (subst (λ k. Each text k (Done text e false n)) past f) ps g in (λ last m. r.0 last tt, (tt, tt))
    pairs_on (pair ss v extent ps) es limit d n i j w l few (m, (a, b, key, parts, sep, h, span_is), clear, more) f =
        let after : Each text m (Done text e false (n + 1)) = elim more [
          | inl (last, closes) ↦ closing 125 refl (inr refl) n m j few closes f
          | inr (p, comma, others) ↦ comma_on Pairs refl n m p few comma (inr (pairs_printed text ps _ limit d p j others)) (pairs_on ps _ limit d n p j w l few others f)
        ] in
        let from = value_on v limit (d + length ss) (n + 1) b m w (omega arith) h after in
        let one : (last : Kind) → Pairs last → Each text i (Keyed text e false (n + 1) few (λ kind. may_follow last kind ≡ true) heads.Start) = λ last o.
        key_on text e false (n + 1) few (λ kind. may_follow last kind ≡ true) 0 heads.Start refl refl ss i a key
        (λ qs g. let r = equals_on (λ kind. may_follow last kind ≡ true) refl o n a b few sep (inr (value_printed v text limit (d + length ss) b m h)) from qs g in (λ k. (r.0 k tt).0, r.1.0)) in
        λ qs g. (λ last o. let r = one last o qs g in (r.0 last, r.1), (tt, tt))

  -- ---- the rest of a line

  -- the rest of a line: the rest of a value's statement, a blank statement by itself, and the rest of a header
  abbrev pub Tailed : Bool → List Piece → Type 0
  Tailed b ps = Done text e b 0 ps × (kind_of ps ≡ is.Blank) × (kind_from heads.Closed ps ≡ is.Header)

  tail_blank : (b : Bool) → After (Tailed b) kinds.Blank (Tailed b)
  unfolding kind_from next
  tail_blank b i j ps ((on, rest), kind, closed) = ((λ last. on_step text e b 0 last (piece kinds.Blank i j) ps (omega arith) refl (on last), rest), kind, closed)

  tail_comment : (b : Bool) → After (Tailed b) kinds.Comment (Tailed b)
  unfolding kind_from next
  tail_comment b i j ps ((on, rest), kind, closed) =
      let u = known_stays is.Unreadable ps in
      ((λ last. on_step text e b 0 last (piece kinds.Comment i j) ps (omega arith) refl (on last), (u, u)), known_stays is.Blank ps, known_stays is.Header ps)

  pub tail_on : (b : Bool) (i : ℕ) → Tail text i e → Each text i (Tailed b)
  unfolding kind_from next
  tail_on b i (k, skipped, ends) = skipped_each text i k (Tailed b) (tail_blank b) (tail_comment b) skipped (elim ends [
    | inl line ↦ line_each text k e (Tailed b) line (λ qs g.
        let u = known_stays is.Unreadable qs in
        ((λ last. on_last text e b last k qs g, (u, u)), known_stays is.Blank qs, known_stays is.Header qs))
    | inr (past, same) ↦
        let here : e ≡ length text = omega (arith, past, same) in
        subst (λ m. Each text m (Tailed b)) (sym past) (end_each text (Tailed b) ((λ last. rw here (on_end text b last), (refl, refl)), refl, refl))
  ])

  -- ---- assignments

  -- a statement of this kind
  abbrev pub IsOne : Bool → StatementKind → List Piece → Type 0
  IsOne b kind ps = ((last : Kind) → On text e b 0 last ps) × (kind_of ps ≡ kind)

  -- after an equals sign, and after a key
  abbrev Valued : List Piece → Type 0
  Valued ps = On text e false 0 (kinds.Mark 61) ps

  abbrev Assigned : List Piece → Type 0
  Assigned ps = ((last : Kind) → On text e false 0 last ps) × (kind_from (heads.After 0) ps ≡ is.Assignment)

  valued_blank : After Valued kinds.Blank Valued
  valued_blank i j ps on = on_step text e false 0 (kinds.Mark 61) (piece kinds.Blank i j) ps (omega arith) refl on

  assigned_blank : After Assigned kinds.Blank Assigned
  unfolding kind_from next
  assigned_blank i j ps (on, kind) = (λ last. on_step text e false 0 last (piece kinds.Blank i j) ps (omega arith) refl (on last), kind)

  pub assignment_on : (ev : ParsedAssignment) (limit i j : ℕ) → limit < top → AssignmentWith SpellsScalar ev text limit i j → Tail text j e → Each text i (IsOne false is.Assignment)
  unfolding kind_from next
  assignment_on ev limit i j w h tail =
      let value = value_on ev.value limit (length ev.parts) 0 h.from j w (key_some ev.parts text i h.key_end h.key) h.spelled (λ ps g. (tail_on false j tail ps g).0) in
      let from : Each text (h.sign.at + 1) Valued = blanks_each text (h.sign.at + 1) h.from Valued valued_blank h.sign.after (λ ps g. ((value ps g).0 (kinds.Mark 61) refl).0) in
      key_on text e false 0 (omega arith) (λ kind. kind ≡ is.Assignment) 0 heads.Start refl refl ev.parts i h.key_end h.key
      (blanks_each text h.key_end h.sign.at Assigned assigned_blank h.sign.before
      (mark_each text 61 h.sign.at Assigned h.sign.here refl (λ qs g. (λ last. on_step text e false 0 last (piece (kinds.Mark 61) h.sign.at (h.sign.at + 1)) qs (omega arith) refl (from qs g), known_stays is.Assignment qs))))

  -- ---- headers

  -- after the opening brackets, and after the key
  abbrev Inside : Bool → ℕ → Head → Head → List Piece → Type 0
  Inside b n part head ps = ((last : Kind) → On text e b n last ps) × (kind_from part ps ≡ is.Header) × (kind_from head ps ≡ is.Header)

  inside_blank : (b : Bool) (n : ℕ) (part head : Head) → n < top → next part kinds.Blank ≡ part → next head kinds.Blank ≡ part → After (Inside b n part head) kinds.Blank (Inside b n part head)
  unfolding kind_from
  inside_blank b n part head few x y i j ps (on, one, two) = (λ last. on_step text e b n last (piece kinds.Blank i j) ps few refl (on last), rw x one, rw y one)

  front_on : (b : Bool) (n brackets : ℕ) (head : Head) (parts : List SimpleKey) (array : Bool) (limit i close : ℕ) (few : n < top) → next head kinds.Bare ≡ heads.After brackets → next head (kinds.String false) ≡ heads.After brackets → next head kinds.Blank ≡ heads.Part brackets
      → (h : HeaderFront parts array text limit i close) → Each text close (Inside b n (heads.After brackets) (heads.After brackets)) → Each text h.inside (Inside b n (heads.Part brackets) head)
  unfolding next
  front_on b n brackets head parts double limit i close few x y z h f =
      let after : Each text h.end (Inside b n (heads.After brackets) (heads.After brackets)) = blanks_each text h.end close (Inside b n (heads.After brackets) (heads.After brackets)) (inside_blank b n (heads.After brackets) (heads.After brackets) few refl refl) h.after f in
      let key : (start : Head) → next start kinds.Bare ≡ heads.After brackets → next start (kinds.String false) ≡ heads.After brackets → Each text h.start (Keyed text e b n few (λ kind. kind ≡ is.Header) start) = λ start u v.
      key_on text e b n few (λ kind. kind ≡ is.Header) brackets start u v parts h.start h.end h.key (λ ps g. let r = after ps g in (r.0, r.1)) in
      blanks_each text h.inside h.start (Inside b n (heads.Part brackets) head) (inside_blank b n (heads.Part brackets) head few refl z) h.before
      (λ ps g. ((key head x y ps g).0, (key (heads.Part brackets) refl refl ps g).1, (key head x y ps g).1))

  pub header_on : (b : Bool) (parts : List SimpleKey) (array : Bool) (limit i : ℕ) → SpellsHeader parts array text limit i e → Each text i (IsOne b is.Header)
  unfolding kind_from next
  header_on b parts false limit i h =
      let one : 1 < top = omega arith in
      let rest : Each text (h.close + 1) (Tailed b) = subst (λ k. Each text k (Tailed b)) h.shuts.1 (tail_on b h.end h.rest) in
      let closed : Each text h.close (Inside b 1 (heads.After 1) (heads.After 1)) = mark_each text 93 h.close (Inside b 1 (heads.After 1) (heads.After 1)) h.shuts.0 refl (λ qs g.
      let r = rest qs g in (λ last. on_step text e b 1 last (piece (kinds.Mark 93) h.close (h.close + 1)) qs one refl (r.0.0 (kinds.Mark 93)), r.2, r.2)) in
      let inner = front_on b 1 1 heads.Bracket parts false limit i h.close one refl refl refl h.front closed in
      let opened : Each text (i + 1) (Inside b 1 (heads.Part 1) heads.Bracket) = subst (λ k. Each text k (Inside b 1 (heads.Part 1) heads.Bracket)) h.front.opens.2 inner in
      mark_each text 91 i (IsOne b is.Header) h.front.opens.0 refl (λ qs g. (λ last. on_step text e b 0 last (piece (kinds.Mark 91) i (i + 1)) qs (omega arith) refl ((opened qs g).0 (kinds.Mark 91)), (opened qs g).2))
  header_on b parts true limit i h =
      let one : 1 < top = omega arith in
      let two : 2 < top = omega arith in
      let last_is : h.end ≡ h.close + 1 + 1 = omega (arith, h.shuts.2) in
      let rest : Each text (h.close + 1 + 1) (Tailed b) = subst (λ k. Each text k (Tailed b)) last_is (tail_on b h.end h.rest) in
      let half : Each text (h.close + 1) (λ ps. ((last : Kind) → On text e b 1 last ps) × (kind_from heads.Half ps ≡ is.Header)) = mark_each text 93 (h.close + 1) (λ ps. ((last : Kind) → On text e b 1 last ps) × (kind_from heads.Half ps ≡ is.Header)) h.shuts.1 refl (λ qs g.
      let r = rest qs g in (λ last. on_step text e b 1 last (piece (kinds.Mark 93) (h.close + 1) (h.close + 1 + 1)) qs one refl (r.0.0 (kinds.Mark 93)), r.2)) in
      let closed : Each text h.close (Inside b 2 (heads.After 2) (heads.After 2)) = mark_each text 93 h.close (Inside b 2 (heads.After 2) (heads.After 2)) h.shuts.0 refl (λ qs g.
      let r = half qs g in (λ last. on_step text e b 2 last (piece (kinds.Mark 93) h.close (h.close + 1)) qs two refl (r.0 (kinds.Mark 93)), r.1, r.1)) in
      let inner = front_on b 2 2 (heads.Part 2) parts true limit i h.close two refl refl refl h.front closed in
      let inside_is : h.front.inside ≡ i + 1 + 1 = omega (arith, h.front.opens.2) in
      let opened : Each text (i + 1 + 1) (Inside b 2 (heads.Part 2) (heads.Part 2)) = subst (λ k. Each text k (Inside b 2 (heads.Part 2) (heads.Part 2))) inside_is inner in
      let second : Each text (i + 1) (λ ps. ((last : Kind) → On text e b 1 last ps) × (kind_from heads.Bracket ps ≡ is.Header)) = mark_each text 91 (i + 1) (λ ps. ((last : Kind) → On text e b 1 last ps) × (kind_from heads.Bracket ps ≡ is.Header)) h.front.opens.1 refl (λ qs g.
      (λ last. on_step text e b 1 last (piece (kinds.Mark 91) (i + 1) (i + 1 + 1)) qs one refl ((opened qs g).0 (kinds.Mark 91)), (opened qs g).2)) in
      mark_each text 91 i (IsOne b is.Header) h.front.opens.0 refl (λ qs g. (λ last. on_step text e b 0 last (piece (kinds.Mark 91) i (i + 1)) qs (omega arith) refl ((second qs g).0 (kinds.Mark 91)), (second qs g).1))
