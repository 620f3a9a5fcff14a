-- The statements of a document are its headers and assignments.
use Rattle.toml_span_lex.proofs.Common.{◌≡◌, ℕ, ◌<◌, ◌⊎◌, Bool, true, false, nat_lt, List, [], ◌∷◌, ◌++◌, length, get_or, drop, drop-drop, drop_all, map, filter, arith, inl, inr, refl, sym, ap, subst, ◌∙◌, encode_utf8, nat_tests, common_steps, false≢true}
use Rattle.std.specs.List.{AllZip}
use Rattle.toml_span_lex.specs.Bytes.{is_blank, is_printed, MaximalRun}
use Rattle.toml_span_lex.specs.Text.{FirstPlace}
use Rattle.toml_span_lex.specs.declared.span.Span.{Span}
use Rattle.toml_span_lex.specs.declared.tokens.Error.TheVariants as errors
use Rattle.toml_span_lex.proofs.NoFault.{token_or_fault}
use Rattle.toml_span_lex.proofs.OneFault.{fault_unique}
use Rattle.toml_span_lex.proofs.Runs.{char_within}
use Rattle.toml_span_read.specs.Data.{SimpleKey, ParsedAssignment, ParsedSection, headerless_section, from_to}
use Rattle.toml_span_read.specs.Gaps.{MaximalGap, AfterLines, Tail, BlankLines}
use Rattle.toml_span_read.specs.Grammar.{SpellsScalar, SpellsDocument, SpellsHeader, AssignmentWith, AssignmentsWith, LinesWith, SectionsWith, OpensHeader}
use Rattle.toml_span_syntax.specs.declared.pieces.Kind.TheVariants as kinds
use Rattle.toml_span_syntax.specs.declared.pieces.Piece.{Piece}
use Rattle.toml_span_syntax.specs.declared.heads.StatementKind.{StatementKind}
use Rattle.toml_span_syntax.specs.declared.heads.StatementKind.TheVariants as is
use Rattle.toml_span_syntax.specs.declared.statements.Statement.{Statement}
use Rattle.toml_span_syntax.specs.Pieces.{Covers}
use Rattle.toml_span_syntax.specs.Heads.{kind_of, kind_from, next}
use Rattle.toml_span_syntax.specs.Statements.{Splits, closable, end_from, end_of, is_bracketed, begins_bracket}
use Rattle.toml_span_laws.specs.Statements.{Entry, header_entry, assignment_entry, entries, offset, past_blanks, is_filled, Remains, IsEntry}
use Rattle.toml_span_laws.proofs.BlankLaws.{gap_lines}
use Rattle.toml_span_laws.proofs.Going.{top, On, on_step, on_end}
use Rattle.toml_span_laws.proofs.Goes.{key_printed, tail_on, assignment_on, header_on, key_first, bracket_first}
use Rattle.toml_span_laws.proofs.Pieced.{piece, After, Each, blanks_each, end_each}

-- the pieces of the text from i on, perhaps after a byte order mark
abbrev From : List ℕ → ℕ → List Piece → Type 0
From text i ps = Covers text i ps (length text) ⊎ ((j k : ℕ) × (qs : List Piece) × (ps ≡ piece kinds.ByteOrderMark j k ∷ qs) × Covers text i qs (length text))

each_from : (text : List ℕ) (i : ℕ) (P : List Piece → Type 0) → After P kinds.ByteOrderMark P → Each text i P → (ps : List Piece) → From text i ps → P ps
each_from text i P mark f ps (inl h) = f ps h
each_from text i P mark f ps (inr (j, k, qs, e, h)) = rw e (mark j k qs (f qs h))

-- ---- the first piece

mark_bytes : (text rest : List ℕ) → text ≡ encode_utf8 0xFEFF ++ rest → (get_or text 0 0 ≡ 239) × (get_or text 1 0 ≡ 187) × (get_or text 2 0 ≡ 191)
unfolding lib.Utf8.encode
mark_bytes text rest h = (ap (λ t. get_or t 0 0) h, ap (λ t. get_or t 1 0) h, ap (λ t. get_or t 2 0) h)

first_piece : (text : List ℕ) (start : ℕ) → FirstPlace text start → (ps : List Piece) → Covers text 0 ps (length text) → From text start ps
first_piece text start (inr (e, h)) ps g = inl (rw e g)
first_piece text start (inl h) [] g = absurd (omega (arith, g, char_within text 0 0xFEFF start h))
first_piece text start (inl (inl h)) (p ∷ qs) g = absurd (omega (arith, h.1))
first_piece text start (inl (inr h)) (p ∷ qs) (e, within, inl (span, l, token, kind), rest) =
    absurd (token_or_fault text 0 p.end start span l (errors.Unexpected 0 0xFEFF) (rw e at token) (inl (refl, inr h, refl)))
first_piece text start (inl (inr h)) (p ∷ qs) (e, within, inr (j, error, fault, same), rest) =
    let bytes = mark_bytes text (drop start text) h.2 in
    let end : j ≡ start = (fault_unique text 0 j start error (errors.Unexpected 0 0xFEFF) (rw e at fault) (inl (refl, inr h, refl))).0 in
    let form : p ≡ piece kinds.ByteOrderMark 0 start = same ∙ (rw (e, end) (rw (bytes.0, bytes.1, bytes.2) refl)) in
    inr (0, start, qs, ap (λ q. q ∷ qs) form, rw (ap (λ (q : Piece). q.end) form) at rest)

-- ---- one statement after another

module _ (text : List ℕ) (pieces : List Piece) where
  abbrev Told : List Statement → List Entry → Type 0
  Told ss es = AllZip (IsEntry text pieces) (filter (λ (s : Statement). is_filled s.kind) ss) es

  -- from the piece at a position on, where the text is from i on, the statements are these
  abbrev Next : (List Piece → Type 0) → List Entry → Type 0
  Next P es = (at : ℕ) → P (drop at pieces) → (ss : List Statement) → Splits pieces at ss (length pieces) → Told ss es

  abbrev Goes : ℕ → List Entry → Type 0
  Goes i es = Next (From text i) es

  -- the same after a statement, where there is no byte order mark
  abbrev Then : ℕ → List Entry → Type 0
  Then i es = Next (λ ps. Covers text i ps (length text)) es

  goes_on : (i : ℕ) (es : List Entry) → Goes i es → Then i es
  goes_on i es g at h = g at (inl h)

  abbrev On0 : ℕ → List Piece → Type 0
  On0 e ps = On text e (is_bracketed ps) 0 (kinds.Mark 61) ps

  ends_at : (e at : ℕ) → On0 e (drop at pieces) → Covers text e (drop (end_of at (drop at pieces)) pieces) (length text)
  ends_at e at (some, c, from, goes) =
      let closed : nat_lt 0 (closable (drop at pieces)) ≡ true = grind (arith, nat_tests, common_steps) in
      rw (closed, goes (drop at pieces) refl 0 at, ← drop-drop c at pieces) from

  nothing : (at : ℕ) → drop at pieces ≡ [] → (ss : List Statement) → Splits pieces at ss (length pieces) → Told ss []
  unfolding end_from kind_from
  nothing at e [] h = tt
  nothing at e (s ∷ ss) (first, end, kind, rest) =
      let blank : s.kind ≡ is.Blank = kind ∙ (rw e refl) in
      let stays : s.end ≡ at = end ∙ (rw e refl) in
      rw blank (nothing s.end (rw stays e) ss rest)

  -- where there are no more statements, the pieces have ended
  no_more : (e at : ℕ) → On0 e (drop at pieces) → at ≡ length pieces → Covers text e (drop at pieces) (length text)
  unfolding end_from
  no_more e at on past =
      let none : drop at pieces ≡ [] = drop_all at pieces (omega (arith, past)) in
      let same : end_of at (drop at pieces) ≡ at = rw none refl in
      rw same at (ends_at e at on)

  blank_next : (P : List Piece → Type 0) (e : ℕ) (es : List Entry) → ((ps : List Piece) → P ps → On0 e ps × (kind_of ps ≡ is.Blank)) → Then e es → Next P es
  blank_next P e es f g at h [] past = g at (no_more e at (f (drop at pieces) h).0 past) [] past
  blank_next P e es f g at h (s ∷ ss) (first, end, kind, rest) =
      let one = f (drop at pieces) h in
      let blank : s.kind ≡ is.Blank = kind ∙ one.1 in
      rw blank (g s.end (rw end (ends_at e at one.0)) ss rest)

  offset_is : (e : ℕ) (ps : List Piece) → Covers text e ps (length text) → offset text ps ≡ e
  offset_is e [] h = sym h
  offset_is e (p ∷ ps) h = h.0

  entry_next : (P : List Piece → Type 0) (e : ℕ) (entry : Entry) (es : List Entry) → is_filled entry.0 ≡ true → Remains entry.0 text entry.1.end e
      → ((ps : List Piece) → P ps → On0 e ps × (kind_of ps ≡ entry.0) × (offset text (past_blanks ps) ≡ entry.1.start)) → Then e es → Next P (entry ∷ es)
  unfolding kind_from
  entry_next P e entry es filled rest f g at h [] past =
      let none : drop at pieces ≡ [] = drop_all at pieces (omega (arith, past)) in
      let blank : entry.0 ≡ is.Blank = sym (f (drop at pieces) h).1 ∙ (rw none refl) in
      absurd (false≢true (sym (ap is_filled blank) ∙ filled))
  entry_next P e entry es filled remains f g at h (s ∷ ss) (first, end, kind, rest) =
      let one = f (drop at pieces) h in
      let same : s.kind ≡ entry.0 = kind ∙ one.1 in
      let from : Covers text e (drop s.end pieces) (length text) = rw end (ends_at e at one.0) in
      let shown : is_filled s.kind ≡ true = rw same filled in
      rw shown (
        record {
          kind = same;
          start = rw first one.2;
          rest = rw (offset_is e (drop s.end pieces) from) remains;
        },
        g s.end from ss rest,
      )

  -- ---- blank lines

  abbrev IsBlankLine : ℕ → List Piece → Type 0
  IsBlankLine e ps = ((b : Bool) → On text e b 0 (kinds.Mark 61) ps) × (kind_of ps ≡ is.Blank)

  blank_mark : (e : ℕ) → After (IsBlankLine e) kinds.ByteOrderMark (IsBlankLine e)
  unfolding kind_from next
  blank_mark e i j ps (on, kind) = (λ b. on_step text e b 0 (kinds.Mark 61) (piece kinds.ByteOrderMark i j) ps (omega arith) refl (on b), kind)

  blank_blank : (e : ℕ) → After (IsBlankLine e) kinds.Blank (IsBlankLine e)
  unfolding kind_from next
  blank_blank e i j ps (on, kind) = (λ b. on_step text e b 0 (kinds.Mark 61) (piece kinds.Blank i j) ps (omega arith) refl (on b), kind)

  blank_goes : (i e : ℕ) (es : List Entry) → Each text i (IsBlankLine e) → Then e es → Goes i es
  blank_goes i e es f g = blank_next (From text i) e es (λ ps h. let r = each_from text i (IsBlankLine e) (blank_mark e) f ps h in (r.0 (is_bracketed ps), r.1)) g

  lines_goes : (ks : List ℕ) (i k : ℕ) (es : List Entry) → BlankLines text i ks k → Goes k es → Goes i es
  lines_goes [] i k es e g = subst (λ m. Goes m es) (sym e) g
  lines_goes (m ∷ ms) i k es (tail, rest) g =
      blank_goes i m es (λ ps h. (λ b. (tail_on text m b i tail ps h).0.0 (kinds.Mark 61), (tail_on text m false i tail ps h).1)) (goes_on m es (lines_goes ms m k es rest g))

  -- the text ends after blanks
  blank_end : Each text (length text) (IsBlankLine (length text))
  unfolding kind_from
  blank_end = end_each text (IsBlankLine (length text)) (λ b. on_end text b (kinds.Mark 61), refl)

  end_goes : (i : ℕ) → MaximalRun is_blank text i (length text) → Goes i []
  end_goes i run =
      blank_goes i (length text) [] (blanks_each text i (length text) (IsBlankLine (length text)) (blank_blank (length text)) run blank_end)
      (λ at h. nothing at (end_each text (λ ps. ps ≡ []) refl (drop at pieces) h))

  -- ---- headers and assignments

  -- a statement that begins with a header or assignment at `start`, after blanks
  abbrev IsFilled : Bool → StatementKind → ℕ → ℕ → List Piece → Type 0
  IsFilled bracketed kind start e ps =
      ((b : Bool) → (bracketed ≡ false → b ≡ false) → On text e b 0 (kinds.Mark 61) ps) × (kind_of ps ≡ kind) × (offset text (past_blanks ps) ≡ start)
      × (bracketed ≡ false → (is_bracketed ps ≡ false) × (begins_bracket ps ≡ false))

  filled_blank : (bracketed : Bool) (kind : StatementKind) (start e : ℕ) → After (IsFilled bracketed kind start e) kinds.Blank (IsFilled bracketed kind start e)
  unfolding kind_from next
  filled_blank bracketed kind start e i j ps (on, kind_is, here, none) = (λ b x. on_step text e b 0 (kinds.Mark 61) (piece kinds.Blank i j) ps (omega arith) refl (on b x), kind_is, here, λ x. ((none x).1, refl))

  filled_mark : (bracketed : Bool) (kind : StatementKind) (start e : ℕ) → After (IsFilled bracketed kind start e) kinds.ByteOrderMark (IsFilled bracketed kind start e)
  unfolding kind_from next
  filled_mark bracketed kind start e i j ps (on, kind_is, here, none) = (λ b x. on_step text e b 0 (kinds.Mark 61) (piece kinds.ByteOrderMark i j) ps (omega arith) refl (on b x), kind_is, here, λ x. ((none x).1, refl))

  filled_goes : (bracketed : Bool) (entry : Entry) (pre i e : ℕ) (es : List Entry) → is_filled entry.0 ≡ true → MaximalRun is_blank text pre i → entry.1.start ≡ i → Remains entry.0 text entry.1.end e → Each text i (IsFilled bracketed entry.0 i e) → Then e es → Goes pre (entry ∷ es)
  filled_goes bracketed entry pre i e es filled run start remains f g =
      entry_next (From text pre) e entry es filled remains (λ ps h.
      let r = each_from text pre (IsFilled bracketed entry.0 i e) (filled_mark bracketed entry.0 i e) (blanks_each text pre i (IsFilled bracketed entry.0 i e) (filled_blank bracketed entry.0 i e) run f) ps h in
      (r.0 (is_bracketed ps) (λ x. (r.3 x).0), r.1, r.2 ∙ sym start)) g

  -- before each of these, after blanks, the statements are those
  abbrev Before : ℕ → List Entry → Type 0
  Before i es = (pre : ℕ) → MaximalRun is_blank text pre i → Goes pre es

  gap_goes : (i j : ℕ) (es : List Entry) → MaximalGap text i j → AfterLines text j → Before j es → Goes i es
  gap_goes i j es gap after f = let (ks, k, lines, run) = gap_lines text i j gap after in lines_goes ks i k es lines (f k run)

  assignment_goes : (ev : ParsedAssignment) (limit i m n : ℕ) (es : List Entry) → limit < top → AssignmentWith SpellsScalar ev text limit i m → Tail text m n → Then n es → Before i (assignment_entry ev ∷ es)
  assignment_goes ev limit i m n es w h tail g pre run =
      filled_goes false (assignment_entry ev) pre i n es refl run (rw (h.extent) refl) (rw (h.extent) tail)
      (λ ps c.
      let one = assignment_on text n ev limit i m w h tail ps c in
      let first = key_first text ev.parts i h.key_end h.key ps c in
      (λ b x. rw (x refl) (one.0 (kinds.Mark 61)), one.1, first.0, λ x. (first.1, first.2))) g

  assignments_after : (evs earlier : List ParsedAssignment) (limit i j : ℕ) → AssignmentsWith SpellsScalar evs earlier text limit i j → AfterLines text j → AfterLines text i
  assignments_after [] earlier limit i j e a = rw (sym e) a
  assignments_after (ev ∷ evs) earlier limit i j (m, n, k, h, tail, clear, gap, rest) a = inr (key_printed ev.parts text i h.key_end h.key)

  assignments_goes : (evs earlier : List ParsedAssignment) (limit i j : ℕ) (es : List Entry) → limit < top → AssignmentsWith SpellsScalar evs earlier text limit i j → AfterLines text j → Before j es → Before i (map assignment_entry evs ++ es)
  assignments_goes [] earlier limit i j es w e a f = subst (λ k. Before k es) e f
  assignments_goes (ev ∷ evs) earlier limit i j es w (m, n, k, h, tail, clear, gap, rest) a f =
      let all : List Entry = map assignment_entry evs ++ es in
      let more : Before k all = assignments_goes evs (earlier ++ (ev ∷ [])) limit k j es w rest a f in
      assignment_goes ev limit i m n all w h tail (goes_on n all (gap_goes n k all gap (assignments_after evs (earlier ++ (ev ∷ [])) limit k j rest a) more))

  lines_before : (evs : List ParsedAssignment) (limit i j : ℕ) (es : List Entry) → limit < top → LinesWith SpellsScalar evs text limit i j → AfterLines text j → Before j es → Goes i (map assignment_entry evs ++ es)
  lines_before evs limit i j es w (k, gap, h) a f = gap_goes i k (map assignment_entry evs ++ es) gap (assignments_after evs [] limit k j h a) (assignments_goes evs [] limit k j es w h a f)

  -- ---- sections

  header_goes : (parts : List SimpleKey) (array : Bool) (span : Span) (limit i e : ℕ) (es : List Entry) → SpellsHeader parts array text limit i e → span ≡ from_to i e → Then e es → Before i (header_entry parts span ++ es)
  header_goes [] double span limit i e es h span_is g pre run = absurd (h.front.key)
  header_goes (s ∷ ss) double span limit i e es h span_is g pre run =
      filled_goes true (is.Header, span) pre i e es refl run (rw span_is refl) (rw span_is refl)
      (λ ps c. (λ b x. ((header_on text e b (s ∷ ss) double limit i h ps c).0 (kinds.Mark 61)), (header_on text e false (s ∷ ss) double limit i h ps c).1, bracket_first text i h.front.inside double h.front.opens ps c, λ x. absurd (false≢true (sym x)))) g

  sections_after : (bs : List ParsedSection) (limit i : ℕ) → SectionsWith SpellsScalar bs text limit i → AfterLines text i
  sections_after [] limit i e = inl e
  sections_after (b ∷ bs) limit i (j, s, rest) = inr (header_printed b.array s.header.front.inside s.header.front.opens)
    where
      header_printed : (array : Bool) (j : ℕ) → OpensHeader array text i j → is_printed (get_or text i 0) ≡ true
      header_printed false j h = rw (h.0) refl
      header_printed true j h = rw (h.0) refl

  sections_goes : (bs : List ParsedSection) (limit i : ℕ) → limit < top → SectionsWith SpellsScalar bs text limit i → Before i (entries bs)
  sections_goes [] limit i w e = λ pre run. end_goes pre (rw e at run)
  sections_goes (b ∷ bs) limit i w (j, s, rest) =
      let all : List Entry = map assignment_entry b.assignments ++ entries bs in
      header_goes b.header b.array b.header_span limit i s.end all s.header s.header_span
      (goes_on s.end all (lines_before b.assignments limit s.end j (entries bs) w s.lines (sections_after bs limit j rest) (sections_goes bs limit j w rest)))

-- ---- documents

first_entries : (first : List ParsedAssignment) (bs : List ParsedSection) → entries (headerless_section first ++ bs) ≡ map assignment_entry first ++ entries bs
first_entries [] bs = refl
first_entries (ev ∷ evs) bs = refl

pub document_statements : (text : List ℕ) (limit : ℕ) (sections : List ParsedSection) (pieces : List Piece) (statements : List Statement) → limit < top
    → SpellsDocument sections text limit → Covers text 0 pieces (length text) → Splits pieces 0 statements (length pieces)
    → AllZip (IsEntry text pieces) (filter (λ (s : Statement). is_filled s.kind) statements) (entries sections)
document_statements text limit sections pieces statements w h cover split =
    let goes = lines_before text pieces h.first limit h.start h.end (entries h.rest) w h.lines (sections_after text pieces h.rest limit h.end h.sections) (sections_goes text pieces h.rest limit h.end w h.sections) in
    rw (h.all, first_entries h.first h.rest) (goes 0 (first_piece text h.start h.begins pieces cover) statements split)
