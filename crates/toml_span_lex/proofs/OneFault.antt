-- At an offset in a string there is one piece, its close, or one fault.
use Rattle.toml_span_lex.proofs.Common.{common_steps, ◌≡◌, ℕ, ◌+◌, ◌<◌, ◌≤◌, ◌⊎◌, Bool, true, false, min, Option, Some, None, Result, Ok, Err, List, [], ◌∷◌, ◌++◌, length, get_or, drop, arith, inl, inr, sym, ◌∙◌, refl, ap, ◌==◌, ◌&&◌, not, slice_range, IsScalar, false≢true, nat_tests, get_or_past, encode_same}
use Rattle.toml_span_lex.specs.declared.span.Span.{Span}
use Rattle.toml_span_lex.specs.declared.tokens.Error.{Error}
use Rattle.toml_span_lex.specs.declared.tokens.Error.TheVariants as errors
use Rattle.toml_span_lex.specs.declared.pieces.Piece.{Piece}
use Rattle.toml_span_lex.specs.declared.pieces.Piece.TheVariants as pieces
use Rattle.toml_span_lex.specs.Bytes.{MaximalRun, is_blank, is_printed}
use Rattle.toml_span_lex.specs.Text.{is_crlf, CharAt, LineEnd, NoLineEnd}
use Rattle.toml_span_lex.specs.Escapes.{simple_escape, hex_len, hex_value, is_hex, opens_escape, IsEscape}
use Rattle.toml_span_lex.specs.Pieces.{is_plain, is_ws_or_newline, WsAndNewlines, IsDropped, IsClose, drop_fault}
use Rattle.toml_span_lex.specs.Strings.{Cut, IsContent, IsContentCutOff, content, content_end, content_span, ContentFrom, opens_multi, IsString, IsNoString}
use Rattle.toml_span_lex.specs.Tokens.{Lexeme, string, IsUnexpected, IsNoToken, begins_token}
use Rattle.toml_span_lex.specs.code.Escapes.{HexGives, EscapeGives}
use Rattle.toml_span_lex.specs.code.Pieces.{PieceGives}
use Rattle.toml_span_lex.proofs.EscapeLemmas.{past_escape}
use Rattle.toml_span_lex.proofs.Hex.{past_hex}
use Rattle.toml_span_lex.proofs.One.{One, one_is, one_where, one_given, one_either, Choice, one_choice, one_through, ok_same, err_same}
use Rattle.toml_span_lex.proofs.Runs.{char_shut, past_ascii}
use Rattle.toml_span_lex.proofs.Unique.{Stop, stop_one, run_unique, gap_unique, line_unique, line_not, line_unprinted, from_unique, differs}
pub use Rattle.toml_span_lex.proofs.Runs.{char_within}

-- ---- characters

pub char_unique : (text : List ℕ) (i c d j k : ℕ) → CharAt text i c j → CharAt text i d k → (j ≡ k) × (c ≡ d)
char_unique text i c d j k (inl a) (inl b) = (a.2 ∙ sym b.2, a.1 ∙ sym b.1)
char_unique text i c d j k (inl a) (inr b) = absurd (false≢true (sym b.0 ∙ a.0))
char_unique text i c d j k (inr a) (inl b) = absurd (false≢true (sym a.0 ∙ b.0))
char_unique text i c d j k (inr a) (inr b) =
    let same = encode_same c d (drop j text) (drop k text) (sym a.2 ∙ b.2) in
    (a.1 ∙ (rw same.0 (sym b.1)), same.0)

pair_same : {A B : Type 0} (x y : A × B) → x.0 ≡ y.0 → x.1 ≡ y.1 → x ≡ y
pair_same (a, b) (c, d) e f = rw (e, f) refl

-- the fault of the end of the text at an offset, or of the character there
abbrev EndOr : {T : Type 0} → List ℕ → ℕ → T → (ℕ → ℕ → T) → T → Type 0
EndOr text i end char r = ((i ≡ length text) × (r ≡ end)) ⊎ ((x : ℕ × ℕ) × CharAt text i x.0 x.1 × (r ≡ char x.0 x.1))

end_one : {T : Type 0} (text : List ℕ) (i : ℕ) (end : T) (char : ℕ → ℕ → T) → One (EndOr text i end char)
end_one text i end char = one_either (one_where one_is) (one_given (λ x y a b. let u = char_unique text i x.0 y.0 x.1 y.1 a b in pair_same x y u.1 u.0) (λ x. one_is)) (λ r s a b. omega (arith, a.0, char_within text i b.0.0 b.0.1 b.1))

-- ---- escapes

-- reading n digits after the letter at i, stated by the offset where they stop
abbrev HexReads : ℕ → List ℕ → ℕ → ℕ → Result (ℕ × ℕ) (Error × ℕ) → Type 0
HexReads start text i n r = (b : ℕ) × Stop (λ k. is_hex (get_or text k 0)) ((i + 1) + n) (i + 1) b
    × (((b < (i + 1) + n) × EndOr text b (Err (errors.UnterminatedString start, b)) (λ c j. Err (errors.InvalidHexEscape b c, j)) r)
    ⊎ ((b ≡ (i + 1) + n) × ((IsScalar (hex_value text (i + 1) n) × (r ≡ Ok (hex_value text (i + 1) n, b)))
    ⊎ ((IsScalar (hex_value text (i + 1) n) → ⊥) × (r ≡ Err (errors.InvalidEscapeValue i n (hex_value text (i + 1) n), b))))))

hex_reads : (start : ℕ) (text : List ℕ) (i n : ℕ) (r : Result (ℕ × ℕ) (Error × ℕ)) → i < length text → HexGives start text i n r → HexReads start text i n r
hex_reads start text i n (Ok (c, j)) l h = (j, (omega (arith, h.1), omega (arith, h.1), h.0.digits, λ m. absurd (omega (arith, h.1))), inr (h.1, inl (rw (← h.2) h.3, rw h.2 refl)))
hex_reads start text i n (Err (errors.UnterminatedString s, j)) l h =
    (j, (omega (arith, h.1), omega (arith, h.1, h.3), rw h.1 h.2.digits, λ m. rw (get_or_past text j 0 (omega (arith, h.1))) refl), inl (omega (arith, h.1, h.3), inl (h.1, rw h.0 refl)))
hex_reads start text i n (Err (errors.InvalidHexEscape at c, j)) l h =
    (at, (omega (arith, h.0), omega (arith, h.1), h.2.digits, λ m. char_shut is_hex text at c j past_hex refl h.3 h.4), inl (h.1, inr ((c, j), h.3, refl)))
hex_reads start text i n (Err (errors.InvalidEscapeValue at m v, j)) l h =
    (j, (omega (arith, h.4), omega (arith, h.4), h.3.digits, λ m. absurd (omega (arith, h.4))), inr (h.4, inr (rw h.2 at h.5, rw (h.0, h.1, h.2) refl)))
hex_reads start text i n (Err (e, j)) l h = absurd h

hex_one : (start : ℕ) (text : List ℕ) (i n : ℕ) → One (λ r. (i < length text) × HexGives start text i n r)
hex_one start text i n =
    one_through (λ r h. hex_reads start text i n r h.0 h.1) (one_given (stop_one _ _ _)
    (λ b. one_either (one_where (end_one text b _ _)) (one_where (one_either (one_where one_is) (one_where one_is) (λ r s h g. g.0 h.0))) (λ r s h g. omega (arith, h.0, g.0))))

past_printed : (c : ℕ) → 128 ≤ c → is_printed c ≡ true
past_printed c h = grind (arith, nat_tests)

hex_opens : (b : ℕ) → 0 < hex_len b → opens_escape b ≡ true
hex_opens b h = grind (arith, nat_tests)

some_hex : (b c : ℕ) → simple_escape b ≡ Some c → 0 < hex_len b → ⊥
some_hex b c e h = grind (arith, nat_tests)

abbrev EscapeReads : ℕ → List ℕ → ℕ → Result (ℕ × ℕ) (Error × ℕ) → Type 0
EscapeReads start text i = Choice (opens_escape (get_or text i 0))
    (λ r. ((c : ℕ) × (simple_escape (get_or text i 0) ≡ Some c) × (r ≡ Ok (c, i + 1))) ⊎ ((0 < hex_len (get_or text i 0)) × ((i < length text) × HexGives start text i (hex_len (get_or text i 0)) r)))
    (EndOr text i (Err (errors.UnterminatedString start, i)) (λ c j. Err (errors.InvalidEscape i c, j)))

escape_reads : (start : ℕ) (text : List ℕ) (i : ℕ) (r : Result (ℕ × ℕ) (Error × ℕ)) → EscapeGives start text i r → EscapeReads start text i r
escape_reads start text i (Ok (c, j)) (inl h) = inl (rw h.0 refl, inl (c, h.0, rw h.2 refl))
escape_reads start text i (Ok (c, j)) (inr h) = inl (hex_opens (get_or text i 0) h.0, inr (h.0, (h.1, h.2)))
escape_reads start text i (Err (e, j)) (inl h) = inr (rw (get_or_past text i 0 (omega (arith, h.1))) refl, inl (h.1, rw (h.0, h.2) refl))
escape_reads start text i (Err (e, j)) (inr (inl (c, is, shut, at))) = inr (char_shut opens_escape text i c j past_escape refl at shut, inr ((c, j), at, rw is refl))
escape_reads start text i (Err (e, j)) (inr (inr h)) = inl (hex_opens (get_or text i 0) h.0, inr (h.0, (h.1, h.2)))

escape_one : (start : ℕ) (text : List ℕ) (i : ℕ) → One (EscapeGives start text i)
escape_one start text i =
    one_through (escape_reads start text i) (one_choice
    (one_either (one_given (λ c d h g. (let e : Some c ≡ Some d = sym h ∙ g in cc)) (λ c. one_is)) (one_where (hex_one start text i _)) (λ r s h g. some_hex (get_or text i 0) h.0 h.1 g.0))
    (end_one text i _ _))

-- ---- pieces

plain_quote : (q c : ℕ) → (c == q) ≡ true → is_plain q c ≡ false
plain_quote q c h = grind (arith, nat_tests)

abbrev escaped : Result (ℕ × ℕ) (Error × ℕ) → Result (Option Piece × ℕ) (Error × ℕ)
escaped (Ok (c, j)) = Ok (Some (pieces.Escape c), j)
escaped (Err (e, j)) = Err (e, j)

module _ (q : ℕ) (m : Bool) (start : ℕ) (text : List ℕ) (i : ℕ) where
  -- at a quote, by how many there are
  abbrev Quoted : Result (Option Piece × ℕ) (Error × ℕ) → Type 0
  Quoted = Choice m (λ r. (k : ℕ) × MaximalRun (λ c. c == q) text i k × (((k < i + 3) × (r ≡ Ok (Some pieces.Quotes, k))) ⊎ ((i + 3 ≤ k) × (r ≡ Ok (None, min k (i + 5)))))) (λ r. r ≡ Ok (None, i + 1))

  -- after a backslash that drops what follows
  abbrev Dropping : Result (Option Piece × ℕ) (Error × ℕ) → Type 0
  Dropping r = (k : ℕ) × MaximalRun is_blank text (i + 1) k × (((l : ℕ) × LineEnd text k l × ((j : ℕ) × WsAndNewlines text l j × (r ≡ Ok (Some pieces.Dropped, j)))) ⊎ (NoLineEnd text k × (r ≡ Err (drop_fault start text i k, k))))

  -- at a backslash between quotation marks
  abbrev Backslash : Result (Option Piece × ℕ) (Error × ℕ) → Type 0
  Backslash = Choice (m && is_ws_or_newline text (i + 1)) Dropping (λ r. (s : Result (ℕ × ℕ) (Error × ℕ)) × EscapeGives start text (i + 1) s × (r ≡ escaped s))

  -- where nothing is printed
  abbrev Unprinted : Result (Option Piece × ℕ) (Error × ℕ) → Type 0
  Unprinted r = ((l : ℕ) × LineEnd text i l × Choice m (λ r. r ≡ Ok (Some pieces.LineEnd, l)) (λ r. r ≡ Err (errors.NewlineInString i, l)) r)
      ⊎ (NoLineEnd text i × EndOr text i (Err (errors.UnterminatedString start, i)) (λ c j. Err (errors.InvalidCharInString i c, j)) r)

  abbrev PieceReads : Result (Option Piece × ℕ) (Error × ℕ) → Type 0
  PieceReads = Choice (is_plain q (get_or text i 0)) (λ r. (j : ℕ) × MaximalRun (is_plain q) text i j × (r ≡ Ok (Some pieces.Plain, j)))
      (Choice (get_or text i 0 == q) Quoted
      (Choice (get_or text i 0 == 92) Backslash Unprinted))

  reads_one : One PieceReads
  reads_one =
      one_choice (one_given (run_unique _ text i) (λ j. one_is))
      (one_choice (one_choice (one_given (run_unique _ text i) (λ k. one_either (one_where one_is) (one_where one_is) (λ r s h g. omega (arith, h.0, g.0)))) one_is)
      (one_choice
      (one_choice
      (one_given (run_unique _ text (i + 1)) (λ k. one_either (one_given (line_unique text k) (λ l. one_given (gap_unique text l) (λ j. one_is))) (one_where one_is) (λ r s (l, line, g) (n, e). line_not text k l line n)))
      (one_given (escape_one start text (i + 1)) (λ s. one_is)))
      (one_either (one_given (line_unique text i) (λ l. one_choice one_is one_is)) (one_where (end_one text i _ _)) (λ r s (l, line, g) (n, e). line_not text i l line n))))

-- ---- pieces by their first bytes

escape_opens : (text : List ℕ) (i c j : ℕ) → IsEscape text i c j → opens_escape (get_or text i 0) ≡ true
escape_opens text i c j h = grind (arith, nat_tests, common_steps)

opens_no_gap : (text : List ℕ) (i : ℕ) → opens_escape (get_or text i 0) ≡ true → is_ws_or_newline text i ≡ false
opens_no_gap text i h = grind (arith, nat_tests)

dropped_gap : (text : List ℕ) (i j : ℕ) → IsDropped text i j → is_ws_or_newline text i ≡ true
dropped_gap text i j (k, l, run, line, gap) = grind (arith, nat_tests, run.passes, run.forward)

and_false : (m t : Bool) → (m ≡ true → t ≡ false) → (m && t) ≡ false
and_false m t h = grind (arith, nat_tests, common_steps)

close_quoted : (q : ℕ) (m : Bool) (start : ℕ) (text : List ℕ) (i j : ℕ) → IsClose q m text i j → ((get_or text i 0 == q) ≡ true) × Quoted q m start text i (Ok (None, j))
close_quoted q m start text i j h = grind (arith, nat_tests, common_steps)

module _ (q : ℕ) (m : Bool) (start : ℕ) (text : List ℕ) (i : ℕ) (u : (q ≡ 34) ⊎ (q ≡ 39)) where
  quote_printed : is_printed q ≡ true
  quote_printed = elim u [ inl e ↦ rw e refl | inr e ↦ rw e refl ]

  unprinted_reads : (r : Result (Option Piece × ℕ) (Error × ℕ)) → is_printed (get_or text i 0) ≡ false → Unprinted q m start text i r → PieceReads q m start text i r
  unprinted_reads r h x = inr (rw h refl, inr (differs is_printed (get_or text i 0) q (h ∙ ap not (sym quote_printed)), inr (differs is_printed (get_or text i 0) 92 h, x)))

  quoted_reads : (r : Result (Option Piece × ℕ) (Error × ℕ)) → (get_or text i 0 == q) ≡ true → Quoted q m start text i r → PieceReads q m start text i r
  quoted_reads r h x = inr (plain_quote q (get_or text i 0) h, inl (h, x))

  back_reads : (r : Result (Option Piece × ℕ) (Error × ℕ)) → q ≡ 34 → get_or text i 0 ≡ 92 → Backslash q m start text i r → PieceReads q m start text i r
  back_reads r a b x = inr (rw (a, b) refl, inr (rw (a, b) refl, inl (rw b refl, x)))

  piece_reads : (r : Result (Option Piece × ℕ) (Error × ℕ)) → PieceGives q m start text i r → PieceReads q m start text i r
  piece_reads (Ok (Some pieces.Plain, j)) h = inl (h.1.passes i (omega arith) h.0, (j, h.1, refl))
  piece_reads (Ok (Some pieces.Quotes, j)) h = quoted_reads _ (h.3.passes i (omega arith) h.1) (inl (h.0, (j, h.3, inl (h.2, refl))))
  piece_reads (Ok (Some pieces.LineEnd, j)) h = unprinted_reads _ (line_unprinted text i j h.1) (inl (j, h.1, inl (h.0, refl)))
  piece_reads (Ok (Some (pieces.Escape c), j)) h =
      back_reads _ h.0 h.1 (inr (and_false m _ (λ e. opens_no_gap text (i + 1) (escape_opens text (i + 1) c j h.2)), (Ok (c, j), h.2, refl)))
  piece_reads (Ok (Some pieces.Dropped, j)) h =
      let (k, l, run, line, gap) = h.3 in back_reads _ h.0 h.2 (inl (rw (h.1, dropped_gap text (i + 1) j h.3) refl, (k, run, inl (l, line, (j, gap, refl)))))
  piece_reads (Ok (None, j)) h = let c = close_quoted q m start text i j h in quoted_reads _ c.0 c.1
  piece_reads (Err (e, j)) (inl h) =
      let zero = get_or_past text i 0 (omega (arith, h.1)) in unprinted_reads _ (rw zero refl) (inr ((rw zero refl, rw zero refl), inl (h.1, rw (h.0, h.2) refl)))
  piece_reads (Err (e, j)) (inr (inl h)) = unprinted_reads _ (line_unprinted text i j h.2) (inl (j, h.2, inr (h.1, rw h.0 refl)))
  piece_reads (Err (e, j)) (inr (inr (inl (c, is, n, line, at)))) = unprinted_reads _ (char_shut is_printed text i c j past_printed refl at n) (inr (line, inr ((c, j), at, rw is refl)))
  piece_reads (Err (e, j)) (inr (inr (inr (inl h)))) = back_reads _ h.0 h.1 (inr (and_false m _ h.2, (Err (e, j), h.3, refl)))
  piece_reads (Err (e, j)) (inr (inr (inr (inr h)))) =
      back_reads _ h.0 h.2 (inl (rw (h.1, h.4.passes (i + 1) (omega arith) h.3) refl, (j, h.4, inr (h.5, rw h.6 refl))))

  pub piece_one : One (PieceGives q m start text i)
  piece_one = one_through piece_reads (reads_one q m start text i)

-- ---- contents

-- no piece
abbrev pub Ends : Result (Option Piece × ℕ) (Error × ℕ) → Type 0
Ends (Ok (Some p, j)) = ⊥
Ends r = Unit {0}

abbrev Walk : ℕ → Bool → ℕ → List ℕ → ℕ → List (Piece × ℕ) × ℕ × Result (Option Piece × ℕ) (Error × ℕ) → Type 0
Walk q m start text i (ps, at, r) = Cut q m text i ps at × PieceGives q m start text at r × Ends r

pub ends : (p : Piece) (j : ℕ) (r : Result (Option Piece × ℕ) (Error × ℕ)) → Ends r → r ≡ Ok (Some p, j) → ⊥
ends p j r e is = rw is at e

-- pieces that go on up to an end are cut in one way
pub walk_one : (q : ℕ) (m : Bool) (start : ℕ) (text : List ℕ) (u : (q ≡ 34) ⊎ (q ≡ 39)) (i : ℕ) → One (Walk q m start text i)
walk_one q m start text u i ([], a, r) ([], b, s) (c, f, x) (d, g, y) = rw (sym c ∙ d, piece_one q m start text i u r s (rw (sym c) at f) (rw (sym d) at g)) refl
walk_one q m start text u i ([], a, r) ((p, j) ∷ rs, b, s) (c, f, x) (d, g, y) = absurd (ends p j r x (piece_one q m start text i u r (Ok (Some p, j)) (rw (sym c) at f) d.0))
walk_one q m start text u i ((p, j) ∷ ps, a, r) ([], b, s) (c, f, x) (d, g, y) = absurd (ends p j s y (piece_one q m start text i u s (Ok (Some p, j)) (rw (sym d) at g) c.0))
walk_one q m start text u i ((p, j) ∷ ps, a, r) ((t, k) ∷ rs, b, s) (c, f, x) (d, g, y) =
    let same = ok_same (piece_one q m start text i u (Ok (Some p, j)) (Ok (Some t, k)) c.0 d.0) in
    let head : p ≡ t = (let e : Some p ≡ Some t = ap (λ x. x.0) same in cc) in
    let next : j ≡ k = ap (λ x. x.1) same in
    let rest = walk_one q m start text u j (ps, a, r) (rs, b, s) (c.1, f, x) (rw (sym next) at d.1, g, y) in
    rw (head, next) (ap (λ w. ((t, k) ∷ w.0, w.1, w.2)) rest)

-- what content from a place on gives: a value with its end and that of the string, or a fault
abbrev ContentReads : ℕ → Bool → ℕ → List ℕ → ℕ → Result (List ℕ × ℕ × ℕ) (Error × ℕ) → Type 0
ContentReads q m start text from (Ok (v, to, j)) = IsContent q m text from v to j
ContentReads q m start text from (Err (e, j)) = IsContentCutOff q m start text from j e

abbrev content_of : Bool → List ℕ → ℕ → List (Piece × ℕ) × ℕ × Result (Option Piece × ℕ) (Error × ℕ) → Result (List ℕ × ℕ × ℕ) (Error × ℕ)
content_of m text from (ps, at, Ok (p, j)) = Ok (content text from ps ++ slice_range text at (content_end m j), content_end m j, j)
content_of m text from (ps, at, Err (e, j)) = Err (e, j)

content_walk : (q : ℕ) (m : Bool) (start : ℕ) (text : List ℕ) (from : ℕ) (r : Result (List ℕ × ℕ × ℕ) (Error × ℕ)) → ContentReads q m start text from r
    → (w : List (Piece × ℕ) × ℕ × Result (Option Piece × ℕ) (Error × ℕ)) × Walk q m start text from w × (r ≡ content_of m text from w)
content_walk q m start text from (Ok (v, to, j)) h = ((h.pieces, h.at, Ok (None, j)), (h.cut, h.closes, tt), rw (h.value_is, h.to_is) refl)
content_walk q m start text from (Err (e, j)) h = ((h.pieces, h.at, Err (e, j)), (h.cut, h.fault, tt), refl)

content_one : (q : ℕ) (m : Bool) (start : ℕ) (text : List ℕ) (from : ℕ) → (q ≡ 34) ⊎ (q ≡ 39) → One (ContentReads q m start text from)
content_one q m start text from u = one_through (content_walk q m start text from) (one_given (walk_one q m start text u from) (λ w. one_is))

pub content_unique : (q : ℕ) (m : Bool) (text v w : List ℕ) (i s t j k : ℕ) → (q ≡ 34) ⊎ (q ≡ 39) → IsContent q m text i v s j → IsContent q m text i w t k → (v ≡ w) × (s ≡ t) × (j ≡ k)
content_unique q m text v w i s t j k u a b =
    let same = ok_same (content_one q m 0 text i u (Ok (v, s, j)) (Ok (w, t, k)) a b) in
    (ap (λ x. x.0) same, ap (λ x. x.1) same, ap (λ x. x.2) same)

-- ---- strings

-- what begins at an offset: a token with its span and end, or a fault and its end
abbrev pub Outcome : Type 0
Outcome = Result (Span × Lexeme × ℕ) (Error × ℕ)

abbrev pub StringReads : List ℕ → ℕ → Outcome → Type 0
StringReads text i (Ok (s, string src v m, j)) = IsString text i j s src v m
StringReads text i (Ok (s, l, j)) = ⊥
StringReads text i (Err (e, j)) = IsNoString text i j e

abbrev string_of : List ℕ → ℕ → ℕ → Result (List ℕ × ℕ × ℕ) (Error × ℕ) → Outcome
string_of text i from (Ok (v, to, j)) = Ok (content_span (opens_multi text i) i from to, string (slice_range text i j) v (opens_multi text i), j)
string_of text i from (Err (e, j)) = Err (e, j)

string_content : (text : List ℕ) (i : ℕ) (r : Outcome) → StringReads text i r
    → ((get_or text i 0 ≡ 34) ⊎ (get_or text i 0 ≡ 39)) × ((from : ℕ) × ContentFrom (opens_multi text i) text i from
    × ((c : Result (List ℕ × ℕ × ℕ) (Error × ℕ)) × ContentReads (get_or text i 0) (opens_multi text i) i text from c × (r ≡ string_of text i from c)))
string_content text i (Ok (s, string src v m, j)) h =
    (h.quote, (h.from, rw h.form at h.begins, (Ok (v, h.to, j), rw h.form at h.content_is, rw (h.span_is, h.source_is, h.form) refl)))
string_content text i (Err (e, j)) h = (h.quote, (h.from, h.begins, (Err (e, j), h.fault, refl)))
string_content text i r h = absurd h

pub string_one : (text : List ℕ) (i : ℕ) → One (StringReads text i)
string_one text i r s a b =
    let u = (string_content text i r a).0 in
    one_given (from_unique _ text i) (λ from. one_given (content_one _ _ i text from u) (λ c. one_is)) r s (string_content text i r a).1 (string_content text i s b).1

-- ---- faults

-- a character that begins no token, nor does its first byte, with its error
pub record Stray (text : List ℕ) (i j : ℕ) (e : Error) : Type 0 where
  pub c : ℕ
  pub is : e ≡ errors.Unexpected i c
  pub char : CharAt text i c j
  pub byte : begins_token (get_or text i 0) ≡ false
  pub one : is_crlf text i ≡ false

pub stray : (text : List ℕ) (i j : ℕ) (e : Error) → IsUnexpected text i j e → Stray text i j e
stray text i j (errors.Unexpected at c) (e, inl h, n) = absurd (false≢true (sym (rw h.1 at n)))
stray text i j (errors.Unexpected at c) (e, inr h, n) =
    record { c = c; is = ap (λ x. errors.Unexpected x c) e; char = inr h; byte = char_shut begins_token text i c j past_ascii refl (inr h) n; one = h.0 }
stray text i j e h = absurd h

quote_begins : (b : ℕ) → (b ≡ 34) ⊎ (b ≡ 39) → begins_token b ≡ false → ⊥
quote_begins b u n = grind (arith, nat_tests)

pub fault_unique : (text : List ℕ) (i j k : ℕ) (e f : Error) → IsNoToken text i j e → IsNoToken text i k f → (j ≡ k) × (e ≡ f)
fault_unique text i j k e f (inl a) (inl b) =
    let s = stray text i j e a in
    let t = stray text i k f b in
    let one = char_unique text i s.c t.c j k s.char t.char in
    (one.0, s.is ∙ (ap (λ x. errors.Unexpected i x) one.1 ∙ sym t.is))
fault_unique text i j k e f (inl a) (inr b) = absurd (quote_begins (get_or text i 0) b.quote (stray text i j e a).byte)
fault_unique text i j k e f (inr a) (inl b) = absurd (quote_begins (get_or text i 0) a.quote (stray text i k f b).byte)
fault_unique text i j k e f (inr a) (inr b) =
    let same = err_same (string_one text i (Err (e, j)) (Err (f, k)) a b) in (ap (λ x. x.1) same, ap (λ x. x.0) same)
