-- The span of a string is its content.
use Rattle.toml_span_lex.proofs.Common.{◌≡◌, ℕ, ◌+◌, ◌-◌, ◌<◌, ◌≤◌, ◌⊎◌, Bool, List, [], ◌∷◌, ◌++◌, length, drop, get_or, arith, refl, ◌∙◌, inl, inr, ap, length-append, length-take, length-drop, slice_range, length-take-le, cases_lt, nat_tests, common_steps}
use Rattle.toml_span_lex.specs.declared.pieces.Piece.{Piece}
use Rattle.toml_span_lex.specs.declared.pieces.Piece.TheVariants as pieces
use Rattle.toml_span_lex.specs.declared.span.Span.{Span}
use Rattle.toml_span_lex.specs.Pieces.{IsPiece, piece_value}
use Rattle.toml_span_lex.specs.Strings.{Cut, content, content_end, content_span, ContentFrom, HasChange, IsString, IsEmptyOnOneLine}
use Rattle.toml_span_lex.proofs.Copies.{content_fits}
use Rattle.toml_span_lex.proofs.MadeStrings.{content_from_after}
use Rattle.toml_span_lex.proofs.PieceLemmas.{line_forward, piece_forward, Cut-forward, closing, escape_shorter, dropped_shorter, slice_join}
use Rattle.toml_span_laws.specs.Places.{CutsContent}

span_is_content : (multi : Bool) (text : List ℕ) (i from to j : ℕ) → ContentFrom multi text i from → to ≡ content_end multi j → i < j → (IsEmptyOnOneLine i j → ⊥)
    → content_span multi i from to ≡ record { start = from; end = to }
span_is_content multi text i from to j b e l other = grind (arith, nat_tests, common_steps)

pub span_cuts : (text : List ℕ) (i j : ℕ) (span : Span) (source value : List ℕ) (multi : Bool) → IsString text i j span source value multi → (IsEmptyOnOneLine i j → ⊥)
    → CutsContent text i j span value multi
span_cuts text i j span source value multi h other =
    let f = content_fits (get_or text i 0) multi text value h.from h.to j h.content_is in
    let a = content_from_after multi text i h.from h.begins in
    let is = h.span_is ∙ span_is_content multi text i h.from h.to j h.begins h.content_is.to_is (omega (arith, a, f.0, f.1)) other in
    rw is (record { begins = h.begins; forward = omega (arith, f.0); ends = h.content_is.to_is; stands_for = h.content_is })

-- ---- strings that are equal to their text

no_change : (q : ℕ) (text : List ℕ) (i a b j : ℕ) → i ≤ a → b ≤ j → (HasChange q text i j → ⊥) → HasChange q text a b → ⊥
no_change q text i a b j l m none (k, from, to, is) = none (k, omega (arith, l, from), omega (arith, to, m), is)

piece_same : (q : ℕ) (m : Bool) (text : List ℕ) (i j : ℕ) (p : Piece) → IsPiece q m text i j p → (HasChange q text i j → ⊥) → piece_value text i j p ≡ slice_range text i j
piece_same q m text i j p h none = grind (arith, nat_tests, common_steps)

cut_same : (q : ℕ) (m : Bool) (text : List ℕ) (i j : ℕ) (ps : List (Piece × ℕ)) → Cut q m text i ps j → (HasChange q text i j → ⊥) → content text i ps ≡ slice_range text i j
cut_same q m text i j [] e none = let n : j - i ≡ 0 = omega arith in rw n refl
cut_same q m text i j (p ∷ ps) c none =
    let f = piece_forward q m text i p.1 p.0 c.0 in
    let g = Cut-forward q m text p.1 j ps c.1 in
    let here = piece_same q m text i p.1 p.0 c.0 (no_change q text i i p.1 j (omega arith) g none) in
    let more = cut_same q m text p.1 j ps c.1 (no_change q text i p.1 j j (omega (arith, f)) (omega arith) none) in
    rw (here, more) (slice_join text i p.1 j (omega (arith, f)) g)

pub unchanged : (text : List ℕ) (i j : ℕ) (span : Span) (source value : List ℕ) (multi : Bool) → IsString text i j span source value multi → (IsEmptyOnOneLine i j → ⊥)
    → (HasChange (get_or text i 0) text span.start span.end → ⊥) → value ≡ slice_range text span.start span.end
unchanged text i j span source value multi h other none =
    let q = get_or text i 0 in
    let s = span_cuts text i j span source value multi h other in
    let c = s.stands_for in
    let close = closing q multi text c.at j c.closes in
    let on : c.at ≤ span.end = omega (arith, close.on, c.to_is) in
    let f = Cut-forward q multi text span.start c.at c.pieces c.cut in
    let same = cut_same q multi text span.start c.at c.pieces c.cut (no_change q text span.start span.start c.at span.end (omega arith) on none) in
    c.value_is ∙ (rw same (slice_join text span.start c.at span.end f on))

-- ---- strings that are not

no_backslash : (q c : ℕ) → (q ≡ 34) ⊎ (q ≡ 39) → c ≡ q → ((q ≡ 34) × (c ≡ 92)) ⊎ (c ≡ 13) → ⊥
no_backslash q c u e h = grind (arith, nat_tests, common_steps)

piece_fits : (q : ℕ) (m : Bool) (text : List ℕ) (i j : ℕ) (p : Piece) → IsPiece q m text i j p → length (piece_value text i j p) + i ≤ j
piece_fits q m text i j pieces.Plain h = omega (arith, h.0, length-take (j - i) (drop i text))
piece_fits q m text i j pieces.Quotes h = omega (arith, h.1, length-take (j - i) (drop i text))
piece_fits q m text i j pieces.LineEnd h = let f = line_forward text i j h.1 in omega arith
piece_fits q m text i j (pieces.Escape c) h = let l = escape_shorter text i c j h.2 in omega arith
piece_fits q m text i j pieces.Dropped h = let l = dropped_shorter text i j h.3 in omega arith

cut_fits : (q : ℕ) (m : Bool) (text : List ℕ) (i j : ℕ) (ps : List (Piece × ℕ)) → Cut q m text i ps j → length (content text i ps) + i ≤ j
cut_fits q m text i j [] e = omega arith
cut_fits q m text i j (p ∷ ps) c = grind (arith, nat_tests, common_steps, cut_fits q m text p.1 j ps c.1, piece_fits)

piece_shorter : (q : ℕ) (m : Bool) (text : List ℕ) (i j k : ℕ) (p : Piece) → (q ≡ 34) ⊎ (q ≡ 39) → IsPiece q m text i j p → i ≤ k → k < j
    → ((q ≡ 34) × (get_or text k 0 ≡ 92)) ⊎ (get_or text k 0 ≡ 13) → length (piece_value text i j p) + i < j
piece_shorter q m text i j k pieces.Plain u h a b c = absurd (grind (arith, nat_tests, common_steps))
piece_shorter q m text i j k pieces.Quotes u h a b c = absurd (no_backslash q (get_or text k 0) u (grind (arith, nat_tests)) c)
piece_shorter q m text i j k pieces.LineEnd u (e, inl h) a b (inl c) = let s : k ≡ i = omega (arith, a, b, h.1) in absurd (omega (arith, (rw s at c.1), h.0))
piece_shorter q m text i j k pieces.LineEnd u (e, inl h) a b (inr c) = let s : k ≡ i = omega (arith, a, b, h.1) in absurd (omega (arith, (rw s at c), h.0))
piece_shorter q m text i j k pieces.LineEnd u (e, inr h) a b c = omega (arith, h.1)
piece_shorter q m text i j k (pieces.Escape x) u h a b c = escape_shorter text i x j h.2
piece_shorter q m text i j k pieces.Dropped u h a b c = omega (arith, dropped_shorter text i j h.3)

cut_shorter : (q : ℕ) (m : Bool) (text : List ℕ) (i j k : ℕ) (ps : List (Piece × ℕ)) → (q ≡ 34) ⊎ (q ≡ 39) → Cut q m text i ps j → i ≤ k → k < j
    → ((q ≡ 34) × (get_or text k 0 ≡ 92)) ⊎ (get_or text k 0 ≡ 13) → length (content text i ps) + i < j
cut_shorter q m text i j k [] u e a b c = absurd (omega (arith, e, a, b))
cut_shorter q m text i j k (p ∷ ps) u cut a b c =
    elim (cases_lt k p.1) [
      | inl here ↦ omega (arith, length-append (piece_value text i p.1 p.0) (content text p.1 ps), piece_shorter q m text i p.1 k p.0 u cut.0 a here c, cut_fits q m text p.1 j ps cut.1)
      | inr on ↦ omega (arith, length-append (piece_value text i p.1 p.0) (content text p.1 ps), piece_fits q m text i p.1 p.0 cut.0, cut_shorter q m text p.1 j k ps u cut.1 on b c)
    ]

pub changed : (text : List ℕ) (i j : ℕ) (span : Span) (source value : List ℕ) (multi : Bool) → IsString text i j span source value multi → (IsEmptyOnOneLine i j → ⊥)
    → HasChange (get_or text i 0) text span.start span.end → value ≡ slice_range text span.start span.end → ⊥
changed text i j span source value multi h other (k, from, to, is) same =
    let q = get_or text i 0 in
    let s = span_cuts text i j span source value multi h other in
    let c = s.stands_for in
    let close = closing q multi text c.at j c.closes in
    let on : c.at ≤ span.end = omega (arith, close.on, c.to_is) in
    let within : span.end ≤ length text = omega (arith, close.some, close.within, c.to_is) in
    let left = length-append (content text span.start c.pieces) (slice_range text c.at span.end) in
    let tail = length-take (span.end - c.at) (drop c.at text) in
    let whole : length (slice_range text span.start span.end) ≡ span.end - span.start = length-take-le (span.end - span.start) (drop span.start text) (omega (arith, length-drop span.start text, within)) in
    let all : length value ≡ span.end - span.start = ap length same ∙ whole in
    let parts : length value ≡ length (content text span.start c.pieces ++ slice_range text c.at span.end) = ap length c.value_is in
    elim (cases_lt k c.at) [
      | inl before ↦ let l = cut_shorter q multi text span.start c.at k c.pieces h.quote c.cut from before is in omega (arith, l, left, tail, all, parts, on, s.forward)
      | inr after ↦ no_backslash q (get_or text k 0) h.quote (grind (arith, nat_tests, common_steps)) is
    ]
