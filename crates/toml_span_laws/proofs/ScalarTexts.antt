-- The text of a scalar is read as that scalar wherever it occurs.
use Rattle.toml_span_lex.proofs.Common.{◌≡◌, ℕ, ◌+◌, ◌-◌, ◌<◌, ◌≤◌, Bool, true, false, ◌==◌, List, [], ◌∷◌, ◌++◌, length, drop, get_or, arith, inl, inr, refl, sym, ◌∙◌, subst, slice_range, cases_lt, false≢true, ne_eqb, get_or_past, append_assoc, length-append, get_or_append_left, get_or-append-add, get_or-append_right, get_or-take, get_or-drop, take_all, length-take-le, length-drop, and-false, nat_tests, common_steps}
use Rattle.std.proofs.lemmas.List.{drop-append-le}
use Rattle.toml_span_lex.specs.declared.span.Span.{Span}
use Rattle.toml_span_lex.specs.declared.pieces.Piece.{Piece}
use Rattle.toml_span_lex.specs.declared.pieces.Piece.TheVariants as pieces
use Rattle.toml_span_lex.specs.Bytes.{is_keylike}
use Rattle.toml_span_lex.specs.Pieces.{is_plain, IsPiece, IsClose}
use Rattle.toml_span_lex.specs.Strings.{Cut, content_end, ContentFrom, IsContent, IsQuote, IsString, opens_multi}
use Rattle.toml_span_lex.proofs.Copies.{content_fits}
use Rattle.toml_span_lex.proofs.PieceLemmas.{piece_forward, Cut-forward, closing}
use Rattle.toml_span_tree.specs.Node.{Scalar, text as text_scalar, integer, float, boolean, datetime}
use Rattle.toml_span_read.specs.Again.{may_follow}
use Rattle.toml_span_read.specs.Dates.{continues_date, is_date_byte}
use Rattle.toml_span_read.specs.Grammar.{SpellsScalar}
use Rattle.toml_span_read.specs.Keys.{opens_string}
use Rattle.toml_span_read.proofs.Moves.{Copied, At, run, same_range}
use Rattle.toml_span_read.proofs.NumbersMove.{off_bytes, number}
use Rattle.toml_span_read.proofs.Parts.{Part, same_part}
use Rattle.toml_span_read.proofs.Undated.{no_date}
use Rattle.toml_span_places.proofs.DatesAgain.{date_again}
use Rattle.toml_span_laws.specs.Again.{ReadsAsScalar, moved_span}
use Rattle.toml_span_laws.proofs.AgainValues.{scalar_copied}
use Rattle.toml_span_laws.proofs.KeptBytes.{Same, test, run as run_kept, line, range as range_kept, escape, dropped, content_same, begins}

-- ---- what follows

off_parts : (rest : List ℕ) → may_follow rest ≡ true → (is_date_byte (get_or rest 0 0) ≡ false) × (opens_string (get_or rest 0 0) ≡ false) × (continues_date rest 0 ≡ false)
off_parts rest h = grind (arith, nat_tests, common_steps)

no_quote : (q c : ℕ) → IsQuote q → opens_string c ≡ false → (c == q) ≡ false
no_quote q c (inl e) h = rw e (ne_eqb c 34 (λ z. absurd (false≢true (sym h ∙ rw z refl))))
no_quote q c (inr e) h = rw e (ne_eqb c 39 (λ z. absurd (false≢true (sym h ∙ rw z refl))))

-- ---- strings that a text ends with

module _ {a b : List ℕ} (w : Same a b (length a)) (off : opens_string (get_or b (length a) 0) ≡ false) where
  piece_on : (q : ℕ) (multi : Bool) (i j : ℕ) (p : Piece) → j < length a → (multi ≡ true → j + 1 < length a) → IsPiece q multi a i j p → IsPiece q multi b i j p
  piece_on q multi i j pieces.Plain l more h = (h.0, run_kept w (is_plain q) i j l h.1)
  piece_on q multi i j pieces.Quotes l more h = (h.0, h.1, h.2, run_kept w (λ c. c == q) i j l h.3)
  piece_on q multi i j pieces.LineEnd l more h = (h.0, line w i j (omega arith) h.1)
  piece_on q multi i j (pieces.Escape c) l more h =
      let f = piece_forward q multi a i j (pieces.Escape c) h in
      (h.0, test w (λ x. x) 92 i (omega arith) h.1, escape w (i + 1) c j (omega arith) h.2)
  piece_on q multi i j pieces.Dropped l more h =
      let f = piece_forward q multi a i j pieces.Dropped h in
      (h.0, h.1, test w (λ x. x) 92 i (omega arith) h.2, dropped w (i + 1) j (more h.1) h.3)

  cut_on : (q : ℕ) (multi : Bool) (ps : List (Piece × ℕ)) (i j : ℕ) → j < length a → (multi ≡ true → j + 1 < length a) → Cut q multi a i ps j → Cut q multi b i ps j
  cut_on q multi [] i j l more h = h
  cut_on q multi (p ∷ ps) i j l more h =
      let f = Cut-forward q multi a p.1 j ps h.1 in
      (piece_on q multi i p.1 p.0 (omega arith) (λ m. (let x = more m in omega arith)) h.0, cut_on q multi ps p.1 j l more h.1)

  -- the quotes do not extend past the end
  close_on : (q : ℕ) (multi : Bool) (i j : ℕ) → IsQuote q → IsClose q multi a i j → IsClose q multi b i j
  close_on q false i j quote (h, x, y) = (test w (λ x. x) q i x h, omega (arith, w.in_b), y)
  close_on q true i j quote (r, h, long, y) = elim (cases_lt r (length a)) [
    | inl x ↦ (r, run_kept w (λ c. c == q) i r x h, long, y)
    | inr x ↦
        let e : r ≡ length a = omega (arith, h.within) in
        (r, record { forward = h.forward; within = omega (arith, w.in_b); passes = λ k m n. test w (λ c. c == q) true k (omega arith) (h.passes k m n); stops = λ z. rw e (no_quote q (get_or b (length a) 0) quote off) }, long, y)
  ]

  content_on : (q : ℕ) (multi : Bool) (from to end : ℕ) (v : List ℕ) → IsQuote q → (multi ≡ true → 3 ≤ end) → IsContent q multi a from v to end → IsContent q multi b from v to end
  content_on q multi from to end v quote far h =
      let c = closing q multi a h.at end h.closes in
      let fit = content_fits q multi a v from to end h in
      let f : h.at ≤ to = omega (arith, c.on, h.to_is) in
      let l : h.at < length a = omega (arith, fit.1, fit.2) in
      let more : multi ≡ true → h.at + 1 < length a = λ m. (let t : to ≡ content_end true end = rw m at h.to_is in let x = far m in omega (arith, fit.1, fit.2)) in
      record {
        pieces = h.pieces;
        at = h.at;
        cut = cut_on q multi h.pieces from h.at l more h.cut;
        closes = close_on q multi h.at end quote h.closes;
        to_is = h.to_is;
        value_is = h.value_is ∙ rw (content_same w q multi h.pieces from h.at (omega arith) h.cut, range_kept w h.at to (omega (arith, fit.1, fit.2))) refl;
      }

  opens_on : (i : ℕ) → i + 1 < length a → IsQuote (get_or a i 0) → opens_multi a i ≡ opens_multi b i
  opens_on i l quote = elim (cases_lt (i + 2) (length a)) [
    | inl x ↦ rw (w.byte i (omega arith), w.byte (i + 1) (omega arith), w.byte (i + 2) x) refl
    | inr x ↦
        let e : i + 2 ≡ length a = omega arith in
        let past : get_or a (i + 2) 0 ≡ 0 = get_or_past a (i + 2) 0 (omega arith) in
        let here : (get_or a (i + 2) 0 == get_or a i 0) ≡ false = rw past (no_quote (get_or a i 0) 0 quote refl) in
        let there : (get_or b (i + 2) 0 == get_or b i 0) ≡ false = rw e (rw (← w.byte i (omega arith)) (no_quote (get_or a i 0) (get_or b (length a) 0) quote off)) in
        rw (here, there, and-false (get_or a (i + 1) 0 == get_or a i 0), and-false (get_or b (i + 1) 0 == get_or b i 0)) refl
  ]

  long_from : (multi : Bool) (i from : ℕ) → ContentFrom multi a i from → (i < from) × (multi ≡ true → i + 3 ≤ from)
  long_from multi i from h = grind (arith, nat_tests, common_steps)

  begins_on : (multi : Bool) (i from : ℕ) → (multi ≡ true → from + 1 < length a) → ContentFrom multi a i from → ContentFrom multi b i from
  begins_on false i from more h = h
  begins_on true i from more h = begins w true i from (more refl) h

  string_on : (i : ℕ) (s : Span) (src v : List ℕ) (multi : Bool) → IsString a i (length a) s src v multi → IsString b i (length a) s src v multi
  string_on i s src v multi h =
      let fit = content_fits (get_or a i 0) multi a v h.from h.to (length a) h.content_is in
      let after = long_from multi i h.from h.begins in
      let less : i + 1 < length a = omega (arith, after.0, fit.0, fit.1) in
      let far : multi ≡ true → 3 ≤ length a = λ m. (let x = after.1 m in omega (arith, fit.0, fit.1)) in
      let more : multi ≡ true → h.from + 1 < length a = λ m. (let t : h.to ≡ content_end true (length a) = rw m at h.content_is.to_is in let x = far m in omega (arith, fit.0, fit.1)) in
      let c = content_on (get_or a i 0) multi h.from h.to (length a) v h.quote far h.content_is in
      record {
        from = h.from;
        to = h.to;
        quote = rw (w.byte i (omega arith)) at h.quote;
        form = h.form ∙ opens_on i less h.quote;
        begins = begins_on multi i h.from more h.begins;
        content_is = rw (w.byte i (omega arith)) at c;
        source_is = h.source_is ∙ range_kept w i (length a) (omega arith);
        span_is = h.span_is;
      }

-- ---- scalars that a text ends with

-- with bytes after it
extended : (a after : List ℕ) → Same a (a ++ after) (length a)
extended a after = record { in_a = omega arith; in_b = omega (arith, length-append a after); byte = λ k l. sym (get_or_append_left a after 0 k l) }

extended_copied : (a after : List ℕ) → Copied a (a ++ after) 0 0 (length a) (get_or after 0 0)
extended_copied a after =
    let z : length a + 0 ≡ length a = omega arith in
    record {
      same = λ i k f e l. (let x : i ≡ k = omega arith in rw x (sym (get_or_append_left a after 0 k l)));
      fits = omega arith;
      within = omega (arith, length-append a after);
      next = rw z at (get_or-append-add a after 0 0);
    }

next_is : (a after : List ℕ) → get_or (a ++ after) (length a) 0 ≡ get_or after 0 0
next_is a after = (extended_copied a after).next

here : {n i : ℕ} → i ≤ n → At 0 0 n 0 i i
here l = record { after = omega arith; moved = omega arith; inside = omega arith }

scalar_on : (s : Scalar) (span : Span) (a after : List ℕ) (i : ℕ) → i ≤ length a → may_follow after ≡ true → SpellsScalar s span a i (length a) → SpellsScalar s span (a ++ after) i (length a)
scalar_on (text_scalar v) span a after i l off (source, multi, h) = (source, multi, string_on (extended a after) (rw (next_is a after) (off_parts after off).1) i span source v multi h)
scalar_on (integer n) span a after i l off (none, h, e) =
    let o = (off_parts after off).0 in
    let x = (number (extended_copied a after) o (integer n)).to i (length a) i (length a) (here l) (here (omega arith)) h in
    (no_date (integer n) (a ++ after) i (length a) x (rw (next_is a after) (off_bytes (get_or after 0 0) o).1), x, e)
scalar_on (float x) span a after i l off (none, h, e) =
    let o = (off_parts after off).0 in
    let y = (number (extended_copied a after) o (float x)).to i (length a) i (length a) (here l) (here (omega arith)) h in
    (no_date (float x) (a ++ after) i (length a) y (rw (next_is a after) (off_bytes (get_or after 0 0) o).1), y, e)
scalar_on (boolean b) span a after i l off ((some, r, word), e) =
    let o = (off_parts after off).0 in
    let w = extended_copied a after in
    ((some, (run w is_keylike (λ x. (off_bytes (get_or after 0 0) o).0)).to i (length a) i (length a) (here l) (here (omega arith)) r, word ∙ same_range w i (length a) i (length a) l (here l) (here (omega arith))), e)
scalar_on (datetime d) span a after i l off (begin, c, is, same, e) =
    let o = off_parts after off in
    let p : Part (a ++ after) (slice_range a i (length a)) after i (length a) = ending a after i l in
    subst (λ (x : Span). SpellsScalar (datetime d) x (a ++ after) i (length a)) (sym e) (date_again d is o.0 o.2 (same_part d (sym same) p))
  where
    ending : (a after : List ℕ) (i : ℕ) → i ≤ length a → Part (a ++ after) (slice_range a i (length a)) after i (length a)
    ending a after i l = record { is = rw (drop-append-le i a after l, take_all (length a - i) (drop i a) (omega (arith, length-drop i a))) refl; on = omega (arith, length-take-le (length a - i) (drop i a) (omega (arith, length-drop i a)), length-drop i a); all = omega (arith, length-append a after) }

-- ---- a part of a text

part_copied : (text before : List ℕ) (i j : ℕ) → i ≤ j → j ≤ length text → Copied text (before ++ slice_range text i j) i (length before) (length (before ++ slice_range text i j)) 0
part_copied text before i j on within =
    let part : List ℕ = slice_range text i j in
    let some : length part ≡ j - i = length-take-le (j - i) (drop i text) (omega (arith, length-drop i text)) in
    let n : length (before ++ part) ≡ length before + length part = length-append before part in
    record {
      same = λ m k f e l. (
          let x : i + (k - length before) ≡ m = omega arith in
          let right = get_or-append_right before part (length before) k 0 refl (omega arith) in
          let inside = get_or-take (j - i) (drop i text) (k - length before) 0 (omega arith) in
          let there : get_or (drop i text) (k - length before) 0 ≡ get_or text m 0 = rw x at (get_or-drop i text (k - length before) 0) in
          sym (right ∙ (inside ∙ there)));
      fits = omega arith;
      within = omega arith;
      next = get_or_past (before ++ part) (length (before ++ part)) 0 (omega arith);
    }

pub scalar_text_reads : (s : Scalar) (span : Span) (text : List ℕ) (i j : ℕ) → i ≤ j → j ≤ length text → SpellsScalar s span text i j → ReadsAsScalar s (slice_range text i j)
scalar_text_reads s span text i j on within h before after off =
    let part : List ℕ = slice_range text i j in
    let a : List ℕ = before ++ part in
    let k : ℕ = length before in
    let some : length part ≡ j - i = length-take-le (j - i) (drop i text) (omega (arith, length-drop i text)) in
    let n : length a ≡ k + length part = length-append before part in
    let moved = (scalar_copied (part_copied text before i j on within) s span).to i j k (length a) (record { after = omega arith; moved = omega arith; inside = omega arith }) (record { after = omega arith; moved = omega arith; inside = omega arith }) h in
    let z = scalar_on s (moved_span i k span) a after k (omega arith) off moved in
    let e : a ++ after ≡ before ++ (part ++ after) = append_assoc before part after in
    (moved_span i k span, subst (λ (m : ℕ). SpellsScalar s (moved_span i k span) (before ++ (part ++ after)) k m) n (subst (λ (b : List ℕ). SpellsScalar s (moved_span i k span) b k (length a)) e z))
