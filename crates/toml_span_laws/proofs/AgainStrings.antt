-- A part of a text that another text ends with: runs, gaps and strings in the part are also in its copy.
use Rattle.toml_span_lex.proofs.Common.{◌≡◌, ℕ, ◌+◌, ◌-◌, ◌<◌, ◌⊎◌, Bool, true, false, List, [], ◌∷◌, length, get_or, arith, inl, inr, sym, ◌∙◌, refl, ◌==◌, cases_lt, false≢true, false_from_ne_true, get_or_past, nat_tests, common_steps, ◌≤◌, ◌++◌, take, drop, subst}
use Rattle.toml_span_lex.specs.Bytes.{is_blank, is_printed, MaximalRun}
use Rattle.toml_span_lex.specs.Pieces.{is_ws_or_newline, is_plain, WsAndNewlines, IsDropped, IsPiece, piece_value, IsClose}
use Rattle.toml_span_lex.specs.Text.{is_crlf, LineEnd}
use Rattle.toml_span_lex.specs.Tokens.{RunAt}
use Rattle.toml_span_read.specs.Gaps.{GapPiece, begins_gap, GapBy, MaximalGap, Dot, NoDot, Separator, Closes}
use Rattle.toml_span_read.proofs.Places.{run_some}
use Rattle.toml_span_read.proofs.Moves.{Moves, either, said, Copied, At, in_sequence, nothing, byte, stays, first, run, same_range, further, room, between}
use Rattle.toml_span_lex.specs.declared.span.Span.{Span}
use Rattle.toml_span_lex.specs.declared.pieces.Piece.{Piece}
use Rattle.toml_span_lex.specs.declared.pieces.Piece.TheVariants as pieces
use Rattle.toml_span_lex.specs.Escapes.{is_hex, hex_len, IsHexEscape, IsEscape}
use Rattle.toml_span_lex.specs.Strings.{Cut, content, content_end, IsContent, IsQuote, opens_multi, ContentFrom, IsString}
use Rattle.toml_span_lex.proofs.PieceLemmas.{piece_forward, Cut-forward, closing}
use Rattle.toml_span_lex.proofs.Copies.{content_fits}
use Rattle.toml_span_lex.proofs.MadeStrings.{content_from_after}
use Rattle.toml_span_laws.specs.Again.{moved_span}

module _ {a b : List ℕ} {s t : ℕ} (w : Copied a b s t (length b) 0) where
  abbrev pub Alike : ℕ → (List ℕ → ℕ → ℕ → Type 0) → Type 0
  Alike e R = Moves (At s t (length b) e) (R a) (R b)

  -- ---- runs

  pub runs : {e : ℕ} (p : ℕ → Bool) → Alike e (MaximalRun p)
  runs p = run w p (λ x. absurd (omega arith))

  pub worded : (p : ℕ → Bool) (word : List ℕ) → Alike 0 (λ x i j. RunAt p x i j word)
  worded p word = record {
    on = λ i j h. omega (arith, h.0);
    to = λ i j k l u v h. (let some = h.0 in (omega arith, (runs p).to i j k l u v h.1, h.2 ∙ same_range w i j k l (omega arith) u v));
  }

  -- a run that may extend past the end of the copy
  pub run_cut : (p : ℕ → Bool) (i j k : ℕ) → At s t (length b) 0 i k → MaximalRun p a i j → (l : ℕ) × MaximalRun p b k l × ((j + t ≡ l + s) ⊎ ((l ≡ length b) × (l + s < j + t)))
  run_cut p i j k u r =
      elim (cases_lt (length b + s) (j + t)) [
        | inl past ↦ (
          length b,
          record {
            forward = omega arith;
            within = omega arith;
            passes = λ m x y. (let g = r.passes ((m + s) - t) (omega arith) (omega arith) in rw (w.same ((m + s) - t) m (omega arith) (omega arith) y) at g);
            stops = λ x. absurd (omega arith);
          },
          inr (refl, past),
        )
        | inr within ↦
            let f : j + t ≡ ((j + t) - s) + s = omega (arith, r.forward) in
            ((j + t) - s, (runs p).to i j k ((j + t) - s) u (record { after = omega (arith, r.forward); moved = f; inside = omega arith }) r, inl f)
      ]

  -- ---- line ends

  pub crlf : {e i k : ℕ} (x : Bool) → At s t (length b) e i k → k + 1 < length b → is_crlf a i ≡ x → is_crlf b k ≡ x
  crlf {i = i} {k} x u l h = rw (w.same i k u.after u.moved (omega arith), w.same (i + 1) (k + 1) (omega arith) (omega arith) l) at h

  pub line : {e : ℕ} → Alike e LineEnd
  line = either (first w (λ x. x) 10 nothing) (record { on = λ i j h. omega (arith, h.1); to = λ i j k l u v h. (crlf true u (omega (arith, h.1)) h.0, omega (arith, h.1)) })

  -- ---- gaps

  pub ws_back : {e i k : ℕ} → At s t (length b) e i k → is_ws_or_newline b k ≡ true → is_ws_or_newline a i ≡ true
  ws_back {i = i} {k} u h = grind (arith, nat_tests, common_steps)

  gap_back : {e i k : ℕ} → At s t (length b) e i k → begins_gap b k ≡ true → begins_gap a i ≡ true
  gap_back {i = i} {k} u h = grind (arith, nat_tests, common_steps)

  gap_piece : Alike 0 GapPiece
  gap_piece = either (first w is_blank true nothing) (either line comment)
    where
      comment : Alike 0 (λ x i j. (get_or x i 0 ≡ 35) × MaximalRun is_printed x i j)
      comment = record {
        on = λ i j h. h.1.forward;
        to = λ i j k l u v h. (let some = run_some is_printed a i j refl (rw (h.0) refl) h.1 in (byte w (λ x. x) 35 u (omega arith) h.0, (runs is_printed).to i j k l u v h.1));
      }

  gap_pieces : (ns : List ℕ) → Moves (At s t (length b) 0) (λ i j. GapBy a i ns j) (λ k l. (ms : List ℕ) × GapBy b k ms l)
  gap_pieces [] = said (λ i j h. sym h) (λ k l h. ([], sym h)) nothing
  gap_pieces (n ∷ ns) = said (λ i j h. (n, h.0, h.1)) (λ k l h. (h.0 ∷ h.2.0, (h.1, h.2.1))) (in_sequence gap_piece (gap_pieces ns))

  pub gap : Alike 0 MaximalGap
  gap = record {
    on = λ i j h. h.forward;
    to = λ i j k l u v h. (
        let by = (gap_pieces h.ends).to i j k l u v h.pieces in
        record { ends = by.0; pieces = by.1; forward = omega (arith, h.forward); stops = false_from_ne_true _ (λ y. false≢true (sym h.stops ∙ gap_back v y)) });
  }

  -- ---- signs

  pub sign : (c : ℕ) → Alike 0 (Separator c)
  sign c = said (λ i j h. (h.at, h.before, (h.here, h.after))) (λ k l h. record { at = h.0; before = h.1; here = h.2.0; after = h.2.1 }) (in_sequence gap (first w (λ x. x) c gap))

  pub closes : (c : ℕ) → Alike 0 (Closes c)
  closes c = said (λ i j h. (h.at, h.before, (h.here, h.ends))) (λ k l h. record { at = h.0; before = h.1; here = h.2.0; ends = h.2.1 }) (in_sequence gap (first w (λ x. x) c nothing))

  pub dot : Alike 0 Dot
  dot = said (λ i j h. (h.at, h.before, (h.here, h.after))) (λ k l h. record { at = h.0; before = h.1; here = h.2.0; after = h.2.1 }) (in_sequence (runs is_blank) (first w (λ x. x) 46 (runs is_blank)))

  pub no_dot : {i k : ℕ} → At s t (length b) 0 i k → NoDot a i → NoDot b k
  no_dot {i} {k} u h = (let r = run_cut is_blank i h.at k u h.before in no_dot_at r.0 r.1 r.2)
    where
      no_dot_at : (l : ℕ) → MaximalRun is_blank b k l → (h.at + t ≡ l + s) ⊎ ((l ≡ length b) × (l + s < h.at + t)) → NoDot b k
      no_dot_at l r (inl f) = (let on = h.before.forward in let in_b = r.within in
          record { at = l; before = r; here = stays w {e = 0} {i = h.at} (λ c. c == 46) (record { after = omega arith; moved = f; inside = omega arith }) refl h.here })
      no_dot_at l r (inr (z, past)) = record { at = l; before = r; here = rw (get_or_past b l 0 (omega arith)) refl }

-- ---- spans

pub equal_moved : (s t x y x' y' : ℕ) → x + t ≡ x' + s → y + t ≡ y' + s → (x == y) ≡ (x' == y')
equal_moved s t x y x' y' e f = grind (arith, nat_tests, common_steps)

-- ---- what comes before the closing quotes

content_end_moved : (m : Bool) (s t to end to' end' : ℕ) → (m ≡ true → 3 ≤ end) → to ≡ content_end m end → s ≤ to → to < end → to + t ≡ to' + s → end + t ≡ end' + s → to' ≡ content_end m end'
content_end_moved m s t to end to' end' n e o l f g = grind (arith, nat_tests, common_steps)

same_value : {v x y x' y' : List ℕ} → v ≡ x ++ y → x ≡ x' → y ≡ y' → v ≡ x' ++ y'
same_value e f g = cc

long_enough : (a : List ℕ) (m : Bool) (i from to j : ℕ) → ContentFrom m a i from → from ≤ to → to ≡ content_end m j → to < j → m ≡ true → i + 5 < j
long_enough a m i from to j h l e less x = grind (arith, nat_tests, common_steps)

pub string_on : (a : List ℕ) (i j : ℕ) (span : Span) (src v : List ℕ) (m : Bool) → IsString a i j span src v m → i < j
string_on a i j span src v m h =
    grind (arith, nat_tests, common_steps, content_fits (get_or a i 0) m a v h.from h.to j h.content_is, content_from_after m a i h.from h.begins)

module _ {a b : List ℕ} {s t : ℕ} (w : Copied a b s t (length b) 0) where
  pub spans : {e i j k l : ℕ} {span : Span} → At s t (length b) e i k → At s t (length b) e j l → span ≡ record { start = i; end = j } → moved_span s t span ≡ record { start = k; end = l }
  spans {i = i} {j} {k} {l} u v z = grind (arith, nat_tests, common_steps)

  -- ---- what a backslash drops

  ws_on : {i k : ℕ} → At s t (length b) 1 i k → k + 1 < length b → is_ws_or_newline a i ≡ true → is_ws_or_newline b k ≡ true
  ws_on {i} {k} u l h = grind (arith, nat_tests, common_steps)

  dropped_gap : Alike w 1 WsAndNewlines
  dropped_gap = record {
    on = λ i j r. r.forward;
    to = λ i j k l u v r. record {
      forward = omega (arith, r.forward);
      within = omega arith;
      passes = λ m x y. ws_on (record { after = omega arith; moved = omega arith; inside = omega arith }) (omega arith) (r.passes ((m + s) - t) (omega arith) (omega arith));
      stops = λ x. false_from_ne_true _ (λ y. false≢true (sym (r.stops (omega (arith, w.fits))) ∙ ws_back w v y));
    };
  }

  dropped : Alike w 1 IsDropped
  dropped = said (λ i j h. (h.0, h.2, (h.1, h.3, h.4))) (λ k l h. (h.0, h.2.0, h.1, h.2.1, h.2.2)) (in_sequence (runs w is_blank) (in_sequence (line w) dropped_gap))

  -- ---- escapes

  hex_escape : (i j k l n c : ℕ) → At s t (length b) 1 i k → At s t (length b) 1 j l → IsHexEscape a i n c j → IsHexEscape b k n c l
  hex_escape i j k l n c u v (r, ends, is, scalar) =
      let x : j - (i + 1) ≡ n = omega arith in
      let y : l - (k + 1) ≡ n = omega arith in
      let e : take n (drop (i + 1) a) ≡ take n (drop (k + 1) b) = rw (x, y) at (same_range w (i + 1) j (k + 1) l (omega arith) (further 1 (omega arith) (room 0 (omega arith) u)) (room 0 (omega arith) v)) in (
        record { within = omega arith; digits = λ m x y. byte w {e = 0} {i = (m + s) - t} is_hex true (record { after = omega arith; moved = omega arith; inside = omega arith }) (omega arith) (r.digits ((m + s) - t) (omega arith) (omega arith)) },
        omega arith,
        (rw (sym e) is),
        scalar,
      )

  escape : (i j k l c : ℕ) → At s t (length b) 1 i k → At s t (length b) 1 j l → IsEscape a i c j → IsEscape b k c l
  escape i j k l c u v (inl (h, x, y)) = inl ((rw (w.same i k u.after u.moved (omega arith)) at h), omega arith, omega arith)
  escape i j k l c u v (inr (h, x, y)) = grind (arith, nat_tests, common_steps, hex_escape i j k l (hex_len (get_or b k 0)) c u v)

  -- ---- pieces

  piece : (q : ℕ) (m : Bool) (i j k l : ℕ) (p : Piece) → At s t (length b) 1 i k → At s t (length b) 1 j l → IsPiece q m a i j p → IsPiece q m b k l p
  piece q m i j k l pieces.Plain u v h = (omega (arith, h.0), (runs w (is_plain q)).to i j k l u v h.1)
  piece q m i j k l pieces.Quotes u v h = (h.0, omega (arith, h.1), omega (arith, h.2), (runs w (λ c. c == q)).to i j k l u v h.3)
  piece q m i j k l pieces.LineEnd u v h = (h.0, (line w).to i j k l u v h.1)
  piece q m i j k l (pieces.Escape c) u v h =
      grind (arith, nat_tests, common_steps, byte w, escape (i + 1) j (k + 1) l c (further 1 (omega arith) u) v h.2, further 1 (omega arith) u, piece_forward q m a i j (pieces.Escape c) h)
  piece q m i j k l pieces.Dropped u v h =
      let n = piece_forward q m a i j pieces.Dropped h in
      (h.0, h.1, byte w (λ x. x) 92 u (omega arith) h.2, dropped.to (i + 1) j (k + 1) l (further 1 (omega arith) u) v h.3)

  piece_value_same : (i j k l : ℕ) (p : Piece) → i ≤ j → At s t (length b) 1 i k → At s t (length b) 1 j l → piece_value a i j p ≡ piece_value b k l p
  piece_value_same i j k l pieces.Plain on u v = same_range w i j k l on u v
  piece_value_same i j k l pieces.Quotes on u v = same_range w i j k l on u v
  piece_value_same i j k l p on u v = refl

  cut : (q : ℕ) (m : Bool) (ps : List (Piece × ℕ)) (i j k l : ℕ) → At s t (length b) 1 i k → At s t (length b) 1 j l → Cut q m a i ps j → (qs : List (Piece × ℕ)) × Cut q m b k qs l × (content a i ps ≡ content b k qs)
  cut q m [] i j k l u v h = let same : k ≡ l = omega arith in ([], same, refl)
  cut q m (p ∷ ps) i j k l u v (h, more) =
      let x = piece_forward q m a i p.1 p.0 h in
      let (n, y) = between i j k l p.1 (omega arith) (Cut-forward q m a p.1 j ps more) u v in
      let rest = cut q m ps p.1 j n l y v more in (
        (p.0, n) ∷ rest.0,
        (piece q m i p.1 k n p.0 u y h, rest.1),
        (rw (piece_value_same i p.1 k n p.0 (omega arith) u y, rest.2) refl),
      )

  -- ---- quotes

  close : (q : ℕ) (m : Bool) (i j k l : ℕ) → At s t (length b) 0 i k → At s t (length b) 0 j l → IsClose q m a i j → IsClose q m b k l
  close q false i j k l u v (h, x, y) = (byte w (λ x. x) q u (omega arith) h, omega arith, omega arith)
  close q true i j k l u v (r, h, long, y) = let (z, g, e) = run_cut w (λ c. c == q) i r k u h in (z, g, grind (arith, nat_tests), grind (arith, nat_tests))

  is_content : (q : ℕ) (m : Bool) (v : List ℕ) (from to end from' to' end' : ℕ) → At s t (length b) 0 from from' → At s t (length b) 0 to to' → At s t (length b) 0 end end' → IsContent q m a from v to end → IsContent q m b from' v to' end'
  is_content q m v from to end from' to' end' x y z h =
      let c = closing q m a h.at end h.closes in
      let f = Cut-forward q m a from h.at h.pieces h.cut in
      let on : h.at ≤ to = omega (arith, c.on, h.to_is) in
      let less : to < end = omega (arith, c.some, h.to_is) in
      let (at, o) = between from end from' end' h.at f (omega arith) x z in go at o (room 1 (omega arith) x) (room 1 (omega arith) o) on less
    where
      go : (at : ℕ) → At s t (length b) 0 h.at at → At s t (length b) 1 from from' → At s t (length b) 1 h.at at → h.at ≤ to → to < end → IsContent q m b from' v to' end'
      go at o x' o' on less =
          let ps = cut q m h.pieces from h.at from' at x' o' h.cut in
          record {
            pieces = ps.0;
            at = at;
            cut = ps.1;
            closes = close q m h.at end at end' o z h.closes;
            to_is = content_end_moved m s t to end to' end' (grind (arith, nat_tests, common_steps)) h.to_is (omega arith) less y.moved z.moved;
            value_is = same_value h.value_is ps.2 (same_range w h.at to at to' on o y);
          }

  -- ---- strings

  opens : (m : Bool) (i k : ℕ) → At s t (length b) 0 i k → IsQuote (get_or b k 0) → (m ≡ true → k + 2 < length b) → m ≡ opens_multi a i → m ≡ opens_multi b k
  opens m i k u q n h = grind (arith, nat_tests, common_steps)

  begins : (m : Bool) (i from k from' : ℕ) → At s t (length b) 0 i k → At s t (length b) 0 from from' → from' < length b → ContentFrom m a i from → ContentFrom m b k from'
  begins m i from k from' u v l h = grind (arith, nat_tests, common_steps)

  pub string : (span : Span) (src v : List ℕ) (m : Bool) → Moves (At s t (length b) 0) (λ i j. IsString a i j span src v m) (λ k l. IsString b k l (moved_span s t span) src v m)
  string span src v m = record { on = λ i j h. omega (arith, string_on a i j span src v m h); to = to }
    where
      to : (i j k l : ℕ) → At s t (length b) 0 i k → At s t (length b) 0 j l → IsString a i j span src v m → IsString b k l (moved_span s t span) src v m
      to i j k l x y h =
          let fit = content_fits (get_or a i 0) m a v h.from h.to j h.content_is in
          let after = content_from_after m a i h.from h.begins in
          let on : h.from ≤ h.to = omega (arith, fit.0) in
          let less : h.to < j = fit.1 in
          let (from, f) = between i j k l h.from (omega arith) (omega arith) x y in
          let (end, g) = between i j k l h.to (omega arith) (omega arith) x y in
          let q : get_or a i 0 ≡ get_or b k 0 = w.same i k x.after x.moved (omega arith) in
          let quote : IsQuote (get_or b k 0) = rw q at h.quote in
          let long = long_enough a m i h.from h.to j h.begins on h.content_is.to_is less in
          record {
            from = from;
            to = end;
            quote = quote;
            form = opens m i k x quote (λ z. let n = long z in omega arith) h.form;
            begins = begins m i h.from k from x f (omega arith) h.begins;
            content_is = subst (λ (c : ℕ). IsContent c m b from v end l) q (is_content (get_or a i 0) m v h.from h.to j from end l f g y h.content_is);
            source_is = h.source_is ∙ same_range w i j k l (omega arith) x y;
            span_is = rw h.span_is (grind (arith, nat_tests, common_steps));
          }
