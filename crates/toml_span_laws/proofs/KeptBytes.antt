-- A text and another one whose first bytes are the same: the tokens that end before the last of these bytes are the same
-- in both, and so are the faults, but some take a byte more.
use Rattle.toml_span_lex.proofs.Common.{◌≡◌, ℕ, ◌+◌, ◌-◌, ◌<◌, ◌≤◌, Bool, true, false, List, [], ◌∷◌, ◌++◌, length, get_or, take, drop, arith, inl, inr, refl, sym, ◌∙◌, ◌==◌, slice_range, ext_get_or, length-take, length-drop, get_or-take, get_or-drop, take-append-drop, take-append-le, take_all, drop-drop, encode_utf8, len_utf8, length-encode, len_utf8_bounds, cases_lt, false≢true, min, prefix_len}
use Rattle.std.proofs.lemmas.Bool.{ne_eqb}
use Rattle.toml_span_lex.specs.declared.pieces.Piece.{Piece}
use Rattle.toml_span_lex.specs.declared.pieces.Piece.TheVariants as pieces
use Rattle.toml_span_lex.specs.declared.span.Span.{Span}
use Rattle.toml_span_lex.specs.declared.tokens.Error.{Error}
use Rattle.toml_span_lex.specs.declared.tokens.Error.TheVariants as errors
use Rattle.toml_span_lex.specs.Bytes.{is_blank, is_keylike, is_printed, MaximalRun}
use Rattle.toml_span_lex.specs.Escapes.{hex_len, hex_value, is_hex, HexRun, IsHexEscape, IsHexFault, IsEscape, IsEscapeFault}
use Rattle.toml_span_lex.specs.Pieces.{is_plain, is_ws_or_newline, WsAndNewlines, IsDropped, IsPiece, piece_value, IsClose, drop_fault, IsContentFault}
use Rattle.toml_span_lex.specs.Strings.{Cut, content, IsContent, IsContentCutOff, IsQuote, opens_multi, ContentFrom, IsString, IsNoString}
use Rattle.toml_span_lex.specs.Text.{is_crlf, LineEnd, NoLineEnd, CharAt}
use Rattle.toml_span_lex.specs.Tokens.{Lexeme, whitespace, newline, comment, punctuator, keylike, string, IsLexeme, IsUnexpected, IsNoToken}
use Rattle.toml_span_lex.proofs.PieceLemmas.{line_forward, piece_forward, Cut-forward, closing}
use Rattle.toml_span_lex.proofs.Copies.{content_fits}
use Rattle.toml_span_lex.proofs.MadeStrings.{content_from_after}
use Rattle.toml_span_read.proofs.NumberLemmas.{run_found}

-- Both texts are at least n bytes long, and their first n bytes are the same.
pub record Same (a b : List ℕ) (n : ℕ) : Type 0 where
  pub in_a : n ≤ length a
  pub in_b : n ≤ length b
  pub byte : (k : ℕ) → k < n → get_or a k 0 ≡ get_or b k 0

char_forward : (text : List ℕ) (i c j : ℕ) → CharAt text i c j → i < j
char_forward text i c j (inl h) = omega (arith, h.2)
char_forward text i c j (inr h) = omega (arith, h.1, (len_utf8_bounds c).0)

first_char : (text rest : List ℕ) (i j c : ℕ) → j ≡ i + len_utf8 c → drop i text ≡ encode_utf8 c ++ rest → slice_range text i j ≡ encode_utf8 c
first_char text rest i j c e d =
    let n : j - i ≡ length (encode_utf8 c) = omega (arith, length-encode c) in
    rw (n, d, take-append-le (length (encode_utf8 c)) (encode_utf8 c) rest (omega arith)) (take_all (length (encode_utf8 c)) (encode_utf8 c) (omega arith))

hex_forward : (start : ℕ) (text : List ℕ) (i m j : ℕ) (e : Error) → i < length text → 0 < m → IsHexFault start text i m j e → i < j
hex_forward start text i m j (errors.UnterminatedString s) l some h = omega (arith, h.1)
hex_forward start text i m j (errors.InvalidHexEscape at c) l some h = omega (arith, h.0, char_forward text at c j h.3)
hex_forward start text i m j (errors.InvalidEscapeValue at k v) l some h = omega (arith, h.4)
hex_forward start text i m j e l some h = absurd h

escape_after : (start : ℕ) (text : List ℕ) (i j : ℕ) (e : Error) → IsEscapeFault start text i j e → j < length text → i < j
escape_after start text i j e (inl h) l = absurd (omega (arith, h.1, h.2))
escape_after start text i j e (inr (inl (c, is, shut, at))) l = char_forward text i c j at
escape_after start text i j e (inr (inr (h, x, y))) l = hex_forward start text i (hex_len (get_or text i 0)) j e x h y

content_fault_after : (q : ℕ) (multi : Bool) (start : ℕ) (text : List ℕ) (i j : ℕ) (e : Error) → IsContentFault q multi start text i j e → j < length text → i < j
content_fault_after q multi start text i j e (inl h) l = absurd (omega (arith, h.1, h.2))
content_fault_after q multi start text i j e (inr (inl h)) l = line_forward text i j h.2
content_fault_after q multi start text i j e (inr (inr (inl (c, is, shut, none, at)))) l = char_forward text i c j at
content_fault_after q multi start text i j e (inr (inr (inr (inl h)))) l = omega (arith, escape_after start text (i + 1) j e h.3 l)
content_fault_after q multi start text i j e (inr (inr (inr (inr h)))) l = omega (arith, h.3)

-- where the text goes on after the blanks, only the byte after the backslash decides
drop_same : (start : ℕ) (a b : List ℕ) (i j : ℕ) → j < length a → j < length b → get_or a (i + 1) 0 ≡ get_or b (i + 1) 0 → drop_fault start a i j ≡ drop_fault start b i j
drop_same start a b i j l k e = rw (ne_eqb j (length a) (λ x. omega arith), ne_eqb j (length b) (λ x. omega arith), e) refl

module _ {a b : List ℕ} {n : ℕ} (w : Same a b n) where
  -- ---- bytes

  pub test : {A : Type 0} (p : ℕ → A) (x : A) (k : ℕ) → k < n → p (get_or a k 0) ≡ x → p (get_or b k 0) ≡ x
  test p x k l h = rw (w.byte k l) at h

  pub run : (p : ℕ → Bool) (i j : ℕ) → j < n → MaximalRun p a i j → MaximalRun p b i j
  run p i j l r = record {
    forward = r.forward;
    within = omega (arith, w.in_b);
    passes = λ k x y. test p true k (omega arith) (r.passes k x y);
    stops = λ x. test p false j l (r.stops (omega (arith, w.in_a)));
  }

  pub range : (i j : ℕ) → j ≤ n → slice_range a i j ≡ slice_range b i j
  range i j l =
      ext_get_or 0 (take (j - i) (drop i a)) (take (j - i) (drop i b)) (omega (arith, w.in_a, w.in_b, length-take (j - i) (drop i a), length-take (j - i) (drop i b), length-drop i a, length-drop i b)) (
      λ m x.
      let less : m < j - i = omega (arith, length-take (j - i) (drop i a)) in
      get_or-take (j - i) (drop i a) m 0 less
      ∙ (get_or-drop i a m 0 ∙ (w.byte (i + m) (omega arith) ∙ (sym (get_or-drop i b m 0) ∙ sym (get_or-take (j - i) (drop i b) m 0 less))))
      )

  -- ---- line ends and characters

  pub crlf : (x : Bool) (i : ℕ) → i + 1 < n → is_crlf a i ≡ x → is_crlf b i ≡ x
  crlf x i l h = rw (w.byte i (omega arith), w.byte (i + 1) l) at h

  pub line : (i j : ℕ) → j ≤ n → LineEnd a i j → LineEnd b i j
  line i j l (inl h) = inl (test (λ x. x) 10 i (omega (arith, h.1)) h.0, h.1)
  line i j l (inr h) = inr (crlf true i (omega (arith, h.1)) h.0, h.1)

  pub no_line : (i : ℕ) → i + 1 < n → NoLineEnd a i → NoLineEnd b i
  no_line i l h = (test (λ x. x == 10) false i (omega arith) h.0, crlf false i l h.1)

  -- where no line end of two bytes begins
  pub char_on : (i c j : ℕ) → j ≤ n → is_crlf b i ≡ false → j ≡ i + len_utf8 c → drop i a ≡ encode_utf8 c ++ drop j a → CharAt b i c j
  char_on i c j l none e d =
      let f = (len_utf8_bounds c).0 in
      let k : i + (j - i) ≡ j = omega arith in
      let s : slice_range b i j ≡ encode_utf8 c = sym (range i j l) ∙ first_char a (drop j a) i j c e d in
      let more : drop (j - i) (drop i b) ≡ drop j b = rw (drop-drop, k) refl in
      let whole : slice_range b i j ++ drop (j - i) (drop i b) ≡ drop i b = take-append-drop (j - i) (drop i b) in
      inr (none, e, sym whole ∙ rw (s, more) refl)

  pub char : (i c j : ℕ) → j < n → CharAt a i c j → CharAt b i c j
  char i c j l (inl h) = inl (crlf true i (omega (arith, h.2)) h.0, h.1, h.2)
  char i c j l (inr h) = let f = char_forward a i c j (inr h) in char_on i c j (omega arith) (crlf false i (omega arith) h.0) h.1 h.2

  -- ---- escapes

  hex : (i j : ℕ) → j ≤ n → HexRun a i j → HexRun b i j
  hex i j l r = record { within = omega (arith, w.in_b); digits = λ k x y. test is_hex true k (omega arith) (r.digits k x y) }

  value : (i m : ℕ) → i + m ≤ n → hex_value a i m ≡ hex_value b i m
  value i m l = let e : (i + m) - i ≡ m = omega arith in let s = range i (i + m) l in let t : take m (drop i a) ≡ take m (drop i b) = rw e at s in rw t refl

  hex_escape : (i m c j : ℕ) → j ≤ n → IsHexEscape a i m c j → IsHexEscape b i m c j
  hex_escape i m c j l (r, e, v, s) = (hex (i + 1) j l r, e, v ∙ value (i + 1) m (omega arith), s)

  hex_fault : (start i m j : ℕ) (e : Error) → j < n → IsHexFault start a i m j e → IsHexFault start b i m j e
  hex_fault start i m j (errors.UnterminatedString s) l h = absurd (omega (arith, h.1, w.in_a))
  hex_fault start i m j (errors.InvalidHexEscape at c) l h = (h.0, h.1, hex (i + 1) at (omega (arith, char_forward a at c j h.3)) h.2, char at c j l h.3, h.4)
  hex_fault start i m j (errors.InvalidEscapeValue at k v) l h = (h.0, h.1, h.2 ∙ value (i + 1) m (omega (arith, h.4)), hex (i + 1) j (omega arith) h.3, h.4, h.5)
  hex_fault start i m j e l h = absurd h

  pub escape : (i c j : ℕ) → j ≤ n → IsEscape a i c j → IsEscape b i c j
  escape i c j l (inl (h, x, y)) = inl ((rw (w.byte i (omega arith)) at h), omega (arith, w.in_b), y)
  escape i c j l (inr (h, x, y)) =
      let some : i < n = omega (arith, y.1) in
      let y' : IsHexEscape b i (hex_len (get_or a i 0)) c j = hex_escape i (hex_len (get_or a i 0)) c j l y in
      inr ((rw (w.byte i some) at h), omega (arith, w.in_b), (rw (w.byte i some) at y'))

  escape_fault : (start i j : ℕ) (e : Error) → j < n → IsEscapeFault start a i j e → IsEscapeFault start b i j e
  escape_fault start i j e l (inl h) = absurd (omega (arith, h.1, h.2, w.in_a))
  escape_fault start i j e l (inr (inl (c, is, shut, at))) = inr (inl (c, is, shut, char i c j l at))
  escape_fault start i j e l (inr (inr (h, x, y))) =
      let on = hex_forward start a i (hex_len (get_or a i 0)) j e x h y in
      let y' : IsHexFault start b i (hex_len (get_or a i 0)) j e = hex_fault start i (hex_len (get_or a i 0)) j e l y in
      inr (inr ((rw (w.byte i (omega arith)) at h), omega (arith, w.in_b), (rw (w.byte i (omega arith)) at y')))

  -- ---- pieces

  ws : (x : Bool) (i : ℕ) → i + 1 < n → is_ws_or_newline a i ≡ x → is_ws_or_newline b i ≡ x
  ws x i l h = rw (w.byte i (omega arith), w.byte (i + 1) l) at h

  gap : (i j : ℕ) → j + 1 < n → WsAndNewlines a i j → WsAndNewlines b i j
  gap i j l g = record {
    forward = g.forward;
    within = omega (arith, w.in_b);
    passes = λ k x y. ws true k (omega arith) (g.passes k x y);
    stops = λ x. ws false j l (g.stops (omega (arith, w.in_a)));
  }

  pub dropped : (i j : ℕ) → j + 1 < n → IsDropped a i j → IsDropped b i j
  dropped i j l (k, m, blank, end, more) =
      let f = line_forward a k m end in
      (k, m, run is_blank i k (omega (arith, more.forward)) blank, line k m (omega (arith, more.forward)) end, gap m j l more)

  piece : (q : ℕ) (multi : Bool) (i j : ℕ) (p : Piece) → j + 1 < n → IsPiece q multi a i j p → IsPiece q multi b i j p
  piece q multi i j pieces.Plain l h = (h.0, run (is_plain q) i j (omega arith) h.1)
  piece q multi i j pieces.Quotes l h = (h.0, h.1, h.2, run (λ c. c == q) i j (omega arith) h.3)
  piece q multi i j pieces.LineEnd l h = (h.0, line i j (omega arith) h.1)
  piece q multi i j (pieces.Escape c) l h =
      let f = piece_forward q multi a i j (pieces.Escape c) h in
      (h.0, test (λ x. x) 92 i (omega arith) h.1, escape (i + 1) c j (omega arith) h.2)
  piece q multi i j pieces.Dropped l h =
      let f = piece_forward q multi a i j pieces.Dropped h in
      (h.0, h.1, test (λ x. x) 92 i (omega arith) h.2, dropped (i + 1) j l h.3)

  piece_same : (i j : ℕ) (p : Piece) → j ≤ n → piece_value a i j p ≡ piece_value b i j p
  piece_same i j pieces.Plain l = range i j l
  piece_same i j pieces.Quotes l = range i j l
  piece_same i j p l = refl

  cut : (q : ℕ) (multi : Bool) (ps : List (Piece × ℕ)) (i j : ℕ) → j + 1 < n → Cut q multi a i ps j → Cut q multi b i ps j
  cut q multi [] i j l h = h
  cut q multi (p ∷ ps) i j l h =
      let f = Cut-forward q multi a p.1 j ps h.1 in
      (piece q multi i p.1 p.0 (omega arith) h.0, cut q multi ps p.1 j l h.1)

  pub content_same : (q : ℕ) (multi : Bool) (ps : List (Piece × ℕ)) (i j : ℕ) → j ≤ n → Cut q multi a i ps j → content a i ps ≡ content b i ps
  content_same q multi [] i j l h = refl
  content_same q multi (p ∷ ps) i j l h =
      let f = Cut-forward q multi a p.1 j ps h.1 in
      rw (piece_same i p.1 p.0 (omega arith), content_same q multi ps p.1 j l h.1) refl

  -- ---- strings

  -- the run of quotes goes on past both texts' equal bytes
  past : (q i r j : ℕ) → j < n → MaximalRun (λ c. c == q) a i r → i + 3 ≤ r → n ≤ r → j ≡ min r (i + 5) → IsClose q true b i j
  past q i r j l h long x y =
      let at : j ≡ i + 5 = omega arith in
      let h' = run_found (λ c. c == q) b i (omega (arith, w.in_b)) in
      let m : ℕ = i + prefix_len (λ c. c == q) (drop i b) in
      let on : i + 5 ≤ m = elim (cases_lt m (i + 5)) [
        | inl s ↦ absurd (false≢true (sym (h'.stops (omega (arith, w.in_b))) ∙ test (λ c. c == q) true m (omega arith) (h.passes m h'.forward (omega arith))))
        | inr s ↦ s
      ] in (m, h', omega arith, omega arith)

  close : (q : ℕ) (multi : Bool) (i j : ℕ) → j < n → IsClose q multi a i j → IsClose q multi b i j
  close q false i j l (h, x, y) = (test (λ x. x) q i (omega arith) h, omega (arith, w.in_b), y)
  close q true i j l (r, h, long, y) = elim (cases_lt r n) [
    | inl x ↦ (r, run (λ c. c == q) i r x h, long, y)
    | inr x ↦ past q i r j l h long x y
  ]

  is_content : (q : ℕ) (multi : Bool) (from to end : ℕ) (v : List ℕ) → end < n → IsContent q multi a from v to end → IsContent q multi b from v to end
  is_content q multi from to end v l h =
      let c = closing q multi a h.at end h.closes in
      let f : h.at ≤ to = omega (arith, c.on, h.to_is) in
      let g : to < end = omega (arith, c.some, h.to_is) in
      record {
        pieces = h.pieces;
        at = h.at;
        cut = cut q multi h.pieces from h.at (omega arith) h.cut;
        closes = close q multi h.at end l h.closes;
        to_is = h.to_is;
        value_is = h.value_is ∙ rw (content_same q multi h.pieces from h.at (omega arith) h.cut, range h.at to (omega arith)) refl;
      }

  quote : (i : ℕ) → i < n → IsQuote (get_or a i 0) → IsQuote (get_or b i 0)
  quote i l h = rw (w.byte i l) at h

  opens : (i : ℕ) → i + 2 < n → opens_multi a i ≡ opens_multi b i
  opens i l = rw (w.byte i (omega arith), w.byte (i + 1) (omega arith), w.byte (i + 2) l) refl

  pub begins : (multi : Bool) (i from : ℕ) → from + 1 < n → ContentFrom multi a i from → ContentFrom multi b i from
  begins false i from l h = h
  begins true i from l (inl h) = inl (line (i + 3) from (omega arith) h)
  begins true i from l (inr (h, e)) = inr (no_line (i + 3) (omega arith) h, e)

  string_kept : (i j : ℕ) (s : Span) (src v : List ℕ) (multi : Bool) → j < n → IsString a i j s src v multi → IsString b i j s src v multi
  string_kept i j s src v multi l h =
      let fit = content_fits (get_or a i 0) multi a v h.from h.to j h.content_is in
      let after = content_from_after multi a i h.from h.begins in
      let c = is_content (get_or a i 0) multi h.from h.to j v l h.content_is in
      record {
        from = h.from;
        to = h.to;
        quote = quote i (omega (arith, fit.0, fit.1)) h.quote;
        form = h.form ∙ opens i (omega (arith, fit.0, fit.1));
        begins = begins multi i h.from (omega (arith, fit.0, fit.1)) h.begins;
        content_is = rw (w.byte i (omega (arith, fit.0, fit.1))) at c;
        source_is = h.source_is ∙ range i j (omega arith);
        span_is = h.span_is;
      }

  -- an invalid escape takes a byte more
  abbrev pub More : ℕ → Error → Type 0
  More j e = (at c : ℕ) → e ≡ errors.InvalidEscape at c → j + 1 < n

  content_fault : (q : ℕ) (multi : Bool) (start i j : ℕ) (e : Error) → j < n → More j e → IsContentFault q multi start a i j e → IsContentFault q multi start b i j e
  content_fault q multi start i j e l more (inl h) = absurd (omega (arith, h.1, h.2, w.in_a))
  content_fault q multi start i j e l more (inr (inl h)) = inr (inl (h.0, h.1, line i j (omega arith) h.2))
  content_fault q multi start i j e l more (inr (inr (inl (c, is, shut, none, at)))) =
      let f = char_forward a i c j at in
      inr (inr (inl (c, is, shut, no_line i (omega arith) none, char i c j (omega arith) at)))
  content_fault q multi start i j e l more (inr (inr (inr (inl h)))) =
      let f = escape_after start a (i + 1) j e h.3 (omega (arith, w.in_a)) in
      inr (inr (inr (inl (h.0, test (λ x. x) 92 i (omega arith) h.1, λ m. ws false (i + 1) (omega arith) (h.2 m), escape_fault start (i + 1) j e (omega arith) h.3))))
  content_fault q multi start i j e l more (inr (inr (inr (inr h)))) =
      let goes_on : (j == length a) ≡ false = ne_eqb j (length a) (λ x. omega (arith, w.in_a)) in
      let next : j + 1 < n = more (i + 1) (get_or a (i + 1) 0) (h.6 ∙ rw goes_on refl) in
      inr (inr (inr (inr (h.0, h.1, test (λ x. x) 92 i (omega arith) h.2, h.3, run is_blank (i + 1) j l h.4, no_line j next h.5, h.6 ∙ drop_same start a b i j (omega (arith, w.in_a)) (omega (arith, w.in_b)) (w.byte (i + 1) (omega arith))))))

  no_string_kept : (i j : ℕ) (e : Error) → j < n → More j e → IsNoString a i j e → IsNoString b i j e
  no_string_kept i j e l more h =
      let f = h.fault in
      let after = content_from_after (opens_multi a i) a i h.from h.begins in
      let on = Cut-forward (get_or a i 0) (opens_multi a i) a h.from f.at f.pieces f.cut in
      let to = content_fault_after (get_or a i 0) (opens_multi a i) i a f.at j e f.fault (omega (arith, w.in_a)) in
      let same = w.byte i (omega arith) in
      let multi = opens i (omega arith) in
      let cut_off : IsContentCutOff (get_or a i 0) (opens_multi a i) i b h.from j e =
      record { pieces = f.pieces; at = f.at; cut = cut (get_or a i 0) (opens_multi a i) f.pieces h.from f.at (omega arith) f.cut; fault = content_fault (get_or a i 0) (opens_multi a i) i f.at j e l more f.fault } in
      let from' : ContentFrom (opens_multi a i) b i h.from = begins (opens_multi a i) i h.from (omega arith) h.begins in
      record {
        from = h.from;
        quote = quote i (omega arith) h.quote;
        begins = rw multi at from';
        fault = rw (multi, same) at cut_off;
      }

  -- ---- tokens

  pub token_kept : (i j : ℕ) (s : Span) (x : Lexeme) → j < n → IsLexeme a i j s x → IsLexeme b i j s x
  token_kept i j s (whitespace x) l h = ((h.0.0, run is_blank i j (omega arith) h.0.1, h.0.2 ∙ range i j (omega arith)), h.1)
  token_kept i j s newline l h = (line i j (omega arith) h.0, h.1)
  token_kept i j s (comment x) l h = let f = h.0.1.0 in ((test (λ x. x) 35 i (omega arith) h.0.0, (f, run is_printed i j (omega arith) h.0.1.1, h.0.1.2 ∙ range i j (omega arith))), h.1)
  token_kept i j s (punctuator c) l h = ((h.0.0, test (λ x. x) c i (omega (arith, h.0.2)) h.0.1, h.0.2), h.1)
  token_kept i j s (keylike x) l h = ((h.0.0, run is_keylike i j (omega arith) h.0.1, h.0.2 ∙ range i j (omega arith)), h.1)
  token_kept i j s (string src v multi) l h = string_kept i j s src v multi l h

  unexpected : (i j : ℕ) (e : Error) → j < n → IsUnexpected a i j e → IsUnexpected b i j e
  unexpected i j (errors.Unexpected at c) l h = (h.0, char i c j l h.1, h.2)
  unexpected i j e l h = absurd h

  pub fault_kept : (i j : ℕ) (e : Error) → j < n → More j e → IsNoToken a i j e → IsNoToken b i j e
  fault_kept i j e l more (inl h) = inl (unexpected i j e l h)
  fault_kept i j e l more (inr h) = inr (no_string_kept i j e l more h)
