-- The literal of a scalar is what was read: no quote is directly before a value.
use Rattle.toml_span_lex.proofs.Common.{get_or_past, ◌≡◌, ℕ, ◌+◌, ◌-◌, ◌<◌, ◌≤◌, ◌⊎◌, Bool, true, false, ◌&&◌, ◌==◌, nat_lt, List, [], ◌∷◌, ◌++◌, length, drop, get_or, arith, refl, sym, ◌∙◌, inl, inr, ap, length-append, length-drop, length-take-le, slice_range, ne_eqb, eqb-true, lt-ltb, and_parts, false≢true, false_from_ne_true, cases_lt, cases_Bool, length-encode, len_utf8_bounds, nat_tests, common_steps}
use Rattle.toml_span_lex.specs.Bytes.{is_blank, is_printed, MaximalRun}
use Rattle.toml_span_tree.specs.Node.{Scalar, text as text_scalar, integer, float, boolean, datetime, node, scalar}
use Rattle.toml_span_read.specs.Gaps.{GapPiece, GapBy, MaximalGap}
use Rattle.toml_span_read.specs.Grammar.{SpellsScalar}
use Rattle.toml_span_lex.specs.declared.pieces.Piece.{Piece}
use Rattle.toml_span_lex.specs.declared.pieces.Piece.TheVariants as pieces
use Rattle.toml_span_lex.specs.declared.span.Span.{Span}
use Rattle.toml_span_lex.specs.Pieces.{IsPiece, piece_value}
use Rattle.toml_span_lex.specs.Strings.{Cut, content, ContentFrom, IsContent, IsQuote, IsString, opens_multi}
use Rattle.toml_span_lex.proofs.Copies.{content_fits}
use Rattle.toml_span_lex.proofs.MadeStrings.{content_from_after}
use Rattle.toml_span_lex.proofs.PieceLemmas.{line_forward, piece_forward, Cut-forward, closing}
use Rattle.toml_span_places.specs.Keys.{is_quote}
use Rattle.toml_span_places.specs.Literals.{string_literal, byte_before, after_quotes, quotes_before, literal_span}

-- ---- opening quotes

before_is : (text : List ℕ) (at back m : ℕ) → m + back ≡ at → byte_before text at back ≡ get_or text m 0
before_is text at back m e = grind (arith, nat_tests, common_steps)

-- after one quote
after_one : (text : List ℕ) (i from : ℕ) → IsQuote (get_or text i 0) → from ≡ i + 1 → after_quotes text from ≡ from
after_one text i from quote e = let b = before_is text from 1 i (omega arith) in elim quote [ inl q ↦ rw (b, q) refl | inr q ↦ rw (b, q) refl ]

quotes_one : (text : List ℕ) (k at : ℕ) → IsQuote (get_or text (k + 1) 0) → is_quote (get_or text k 0) ≡ false → at ≡ (k + 1) + 1 → quotes_before text at ≡ 1
quotes_one text k at quote clear e =
    let b = before_is text at 1 (k + 1) (omega arith) in
    let c = before_is text at 2 k (omega arith) in
    elim quote [
      | inl q ↦ let off : (get_or text k 0 == 34) ≡ false = ne_eqb (get_or text k 0) 34 (λ z. absurd (false≢true (sym clear ∙ rw z refl))) in rw (b, c, q, off) refl
      | inr q ↦ let off : (get_or text k 0 == 39) ≡ false = ne_eqb (get_or text k 0) 39 (λ z. absurd (false≢true (sym clear ∙ rw z refl))) in rw (b, c, q, off) refl
    ]

-- after three quotes
three : (text : List ℕ) (i : ℕ) → true ≡ opens_multi text i → (get_or text (i + 1) 0 ≡ get_or text i 0) × (get_or text (i + 2) 0 ≡ get_or text i 0)
three text i e =
    let z = and_parts (get_or text (i + 1) 0 == get_or text i 0) (get_or text (i + 2) 0 == get_or text i 0) (sym e) in
    (eqb-true (get_or text (i + 1) 0) (get_or text i 0) z.0, eqb-true (get_or text (i + 2) 0) (get_or text i 0) z.1)

after_three : (text : List ℕ) (i from : ℕ) → IsQuote (get_or text i 0) → true ≡ opens_multi text i → ContentFrom true text i from → after_quotes text from ≡ i + 3
after_three text i from quote e (inl (inl (line, at))) =
    let t = three text i e in
    let b = before_is text from 1 (i + 3) (omega arith) in
    let c = before_is text from 2 (i + 2) (omega arith) in
    let d : from - 1 ≡ i + 3 = omega arith in
    elim quote [ inl q ↦ rw (b, line, c, t.1, q) d | inr q ↦ rw (b, line, c, t.1, q) d ]
after_three text i from quote e (inl (inr (crlf, at))) =
    let z = and_parts (get_or text (i + 3) 0 == 13) (get_or text ((i + 3) + 1) 0 == 10) crlf in
    let x = eqb-true (get_or text (i + 3) 0) 13 z.0 in
    let y = eqb-true (get_or text ((i + 3) + 1) 0) 10 z.1 in
    let b = before_is text from 1 ((i + 3) + 1) (omega arith) in
    let c = before_is text from 2 (i + 3) (omega arith) in
    let d : from - 2 ≡ i + 3 = omega arith in
    rw (b, y, c, x) d
after_three text i from quote e (inr (none, at)) =
    let t = three text i e in
    let b = before_is text from 1 (i + 2) (omega arith) in
    elim quote [ inl q ↦ rw (b, t.1, q) at | inr q ↦ rw (b, t.1, q) at ]

quotes_three : (text : List ℕ) (i at : ℕ) → IsQuote (get_or text i 0) → true ≡ opens_multi text i → at ≡ i + 3 → quotes_before text at ≡ 3
quotes_three text i at quote e is =
    let t = three text i e in
    let b = before_is text at 1 (i + 2) (omega arith) in
    let c = before_is text at 2 (i + 1) (omega arith) in
    let d = before_is text at 3 i (omega arith) in
    elim quote [ inl q ↦ rw (b, c, d, t.0, t.1, q) refl | inr q ↦ rw (b, c, d, t.0, t.1, q) refl ]

-- ---- content of one byte is not empty

range_some : (text : List ℕ) (i j : ℕ) → i < j → j ≤ length text → 1 ≤ length (slice_range text i j)
range_some text i j l m = omega (arith, length-take-le (j - i) (drop i text) (omega (arith, length-drop i text)))

piece_some : (q : ℕ) (m : Bool) (text : List ℕ) (i j : ℕ) (p : Piece) → IsPiece q m text i j p → j ≡ i + 1 → 1 ≤ length (piece_value text i j p)
piece_some q m text i j pieces.Plain h e = range_some text i j h.0 h.1.within
piece_some q m text i j pieces.Quotes h e = range_some text i j h.1 h.3.within
piece_some q m text i j pieces.LineEnd h e = omega arith
piece_some q m text i j (pieces.Escape c) h e = omega (arith, length-encode c, (len_utf8_bounds c).0)
piece_some q m text i j pieces.Dropped (one, multi, here, (k, l, run, line, gap)) e = let f = line_forward text k l line in absurd (omega (arith, run.forward, gap.forward, f, e))

some_value : (q : ℕ) (m : Bool) (text : List ℕ) (from at to : ℕ) (ps : List (Piece × ℕ)) → Cut q m text from ps at → at ≤ to → to ≡ from + 1 → to ≤ length text → 1 ≤ length (content text from ps ++ slice_range text at to)
some_value q m text from at to [] c on e within = omega (arith, length-append (content text from []) (slice_range text at to), range_some text at to (omega arith) within)
some_value q m text from at to (p ∷ ps) c on e within =
    let f = piece_forward q m text from p.1 p.0 c.0 in
    let g = Cut-forward q m text p.1 at ps c.1 in
    let one = piece_some q m text from p.1 p.0 c.0 (omega arith) in
    omega (arith, length-append (piece_value text from p.1 p.0 ++ content text p.1 ps) (slice_range text at to), length-append (piece_value text from p.1 p.0) (content text p.1 ps), one)

not_empty : (q : ℕ) (m : Bool) (text v : List ℕ) (from to end : ℕ) → IsContent q m text from v to end → (length v == 0 && to == from + 1) ≡ false
not_empty q m text v from to end h = false_from_ne_true _ (λ y. (
    let z = and_parts (length v == 0) (to == from + 1) y in
    let zero = eqb-true (length v) 0 z.0 in
    let one = eqb-true to (from + 1) z.1 in
    let c = closing q m text h.at end h.closes in
    let fit = content_fits q m text v from to end h in
    let some = some_value q m text from h.at to h.pieces h.cut (omega (arith, c.on, h.to_is)) one (omega (arith, fit.1, fit.2)) in
    let same = ap length h.value_is in
    omega arith))

-- ---- the literal

literal_at : (text : List ℕ) (from to i j a n : ℕ) (empty : Bool) → to < length text → (empty && to == from + 1) ≡ false → after_quotes text from ≡ a → quotes_before text a ≡ n → a ≡ i + n → j ≡ to + n
    → string_literal text (record { start = from; end = to }) empty ≡ record { start = i; end = j }
literal_at text from to i j a n empty within some after quotes e f =
    let x : nat_lt to (length text) ≡ true = lt-ltb to (length text) within in
    let y : a - n ≡ i = omega arith in
    rw (x, some, after, quotes, y, f) refl

one_quote : (text : List ℕ) (i : ℕ) (empty : Bool) → i + 1 < length text → empty ≡ true → string_literal text (record { start = i; end = i + 1 }) empty ≡ record { start = i; end = (i + 1) + 1 }
one_quote text i empty within e = let x : nat_lt (i + 1) (length text) ≡ true = lt-ltb (i + 1) (length text) within in let y : (i + 1 == i + 1) ≡ true = grind (arith, nat_tests) in rw (x, e, y) refl

pub string_literal_is : (text : List ℕ) (k j : ℕ) (span : Span) (source value : List ℕ) (multi : Bool) → IsString text (k + 1) j span source value multi → is_quote (get_or text k 0) ≡ false
    → string_literal text span (length value == 0) ≡ record { start = k + 1; end = j }
string_literal_is text k j span source value false h clear =
    let i : ℕ = k + 1 in
    let fit = content_fits (get_or text i 0) false text value h.from h.to j h.content_is in
    let some = not_empty (get_or text i 0) false text value h.from h.to j h.content_is in
    let ends : j ≡ h.to + 1 = omega (arith, h.content_is.to_is, fit.1) in
    elim (cases_Bool (h.from == h.to)) [
      | inl same ↦
          let e : h.from ≡ h.to = eqb-true h.from h.to same in
          let is : span ≡ record { start = i; end = i + 1 } = h.span_is ∙ rw same refl in
          let none : (length value == 0) ≡ true = grind (arith, nat_tests) in
          let end : j ≡ (i + 1) + 1 = omega (arith, h.begins) in
          rw (is, end) (one_quote text i (length value == 0) (omega (arith, h.begins, fit.1, fit.2)) none)
      | inr other ↦
          let is : span ≡ record { start = h.from; end = h.to } = h.span_is ∙ rw other refl in
          rw is (literal_at text h.from h.to i j h.from 1 (length value == 0) (omega (arith, fit.1, fit.2)) some (after_one text i h.from h.quote h.begins) (quotes_one text k h.from h.quote clear h.begins) h.begins ends)
    ]
string_literal_is text k j span source value true h clear =
    let i : ℕ = k + 1 in
    let fit = content_fits (get_or text i 0) true text value h.from h.to j h.content_is in
    let some = not_empty (get_or text i 0) true text value h.from h.to j h.content_is in
    let after = content_from_after true text i h.from h.begins in
    let far : i + 3 ≤ h.from = grind (arith, nat_tests, common_steps) in
    let ends : j ≡ h.to + 3 = omega (arith, h.content_is.to_is, fit.0, fit.1) in
    let at : ℕ = i + 3 in
    let e : at ≡ i + 3 = refl in
    rw (h.span_is) (literal_at text h.from h.to i j at 3 (length value == 0) (omega (arith, fit.1, fit.2)) some (after_three text i h.from h.quote h.form h.begins) (quotes_three text i at h.quote h.form e) e ends)

-- ---- what is directly before a value

-- a byte that is not a quote is directly before the offset
abbrev pub NoQuoteBefore : List ℕ → ℕ → Type 0
NoQuoteBefore text i = (k : ℕ) × (i ≡ k + 1) × (is_quote (get_or text k 0) ≡ false)

-- the same, or a byte that is not printed is there
abbrev Quiet : List ℕ → ℕ → Type 0
Quiet text i = NoQuoteBefore text i ⊎ (is_printed (get_or text i 0) ≡ false)

blank_quiet : (c : ℕ) → is_blank c ≡ true → is_quote c ≡ false
blank_quiet c h = grind (arith, nat_tests, common_steps)

run_stops : (text : List ℕ) (i j : ℕ) → MaximalRun is_printed text i j → is_printed (get_or text j 0) ≡ false
run_stops text i j r = elim (cases_lt j (length text)) [ inl l ↦ r.stops l | inr l ↦ rw (get_or_past text j 0 l) refl ]

piece_quiet : (text : List ℕ) (i j : ℕ) → GapPiece text i j → Quiet text j
piece_quiet text i j (inl (blank, e)) = inl (i, e, blank_quiet (get_or text i 0) blank)
piece_quiet text i j (inr (inl (inl (line, e)))) = inl (i, e, rw line refl)
piece_quiet text i j (inr (inl (inr (crlf, e)))) =
    let z = and_parts (get_or text i 0 == 13) (get_or text (i + 1) 0 == 10) crlf in
    let y = eqb-true (get_or text (i + 1) 0) 10 z.1 in
    inl (i + 1, omega arith, rw y refl)
piece_quiet text i j (inr (inr (hash, run))) = inr (run_stops text i j run)

gap_quiet : (ks : List ℕ) (text : List ℕ) (i k : ℕ) → Quiet text i → GapBy text i ks k → Quiet text k
gap_quiet [] text i k q e = rw e at q
gap_quiet (j ∷ ks) text i k q (x, more) = gap_quiet ks text j k (piece_quiet text i j x) more

pub after_gap : (text : List ℕ) (c i k : ℕ) → get_or text i 0 ≡ c → is_quote c ≡ false → MaximalGap text (i + 1) k → is_printed (get_or text k 0) ≡ true → NoQuoteBefore text k
after_gap text c i k here off g seen = elim (gap_quiet g.ends text (i + 1) k (inl (i, refl, rw here off)) g.pieces) [
  | inl x ↦ x
  | inr z ↦ absurd (false≢true (sym z ∙ seen))
]

pub after_blanks : (text : List ℕ) (c i k : ℕ) → get_or text i 0 ≡ c → is_quote c ≡ false → MaximalRun is_blank text (i + 1) k → NoQuoteBefore text k
after_blanks text c i k here off r = elim (cases_lt (i + 1) k) [
  | inl l ↦ (k - 1, omega arith, blank_quiet (get_or text (k - 1) 0) (r.passes (k - 1) (omega arith) (omega arith)))
  | inr l ↦ (i, omega (arith, r.forward), rw here off)
]

-- ---- scalars

pub scalar_literal : (s : Scalar) (span : Span) (text : List ℕ) (i j : ℕ) → NoQuoteBefore text i → SpellsScalar s span text i j → literal_span text (node (scalar s) span) ≡ record { start = i; end = j }
scalar_literal (text_scalar v) span text i j (k, e, off) (source, multi, h) = rw e (string_literal_is text k j span source v multi (rw e at h) off)
scalar_literal (integer n) span text i j before h = h.2
scalar_literal (float x) span text i j before h = h.2
scalar_literal (boolean b) span text i j before h = h.1
scalar_literal (datetime d) span text i j before h = h.4
