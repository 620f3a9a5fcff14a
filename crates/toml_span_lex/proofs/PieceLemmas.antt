-- Pieces of a string, and what is kept of them.
use Rattle.toml_span_lex.proofs.Common.{◌≡◌, ℕ, ◌+◌, ◌-◌, ◌<◌, ◌≤◌, ◌⊎◌, Bool, true, Option, Some, Result, IfErr, List, [], ◌∷◌, ◌++◌, length, get_or, take, drop, arith, inl, inr, sym, refl, length-append, length-take, length-drop, append_assoc, append-nil, get_or-take, get_or-drop, take-add, drop-drop, encode_utf8, slice_range, string_bytes, digit_value, digits_value, String, common_steps, nat_tests, length-encode, len_utf8_bounds, len_utf8_ascii, IsUtf8, IsCharBoundary-before_ascii}
use Rattle.toml_span_lex.proofs.Runs.{after_ascii}
use Rattle.toml_span_lex.specs.Bytes.{quotation_mark, backslash, carriage_return, is_blank, MaximalRun}
use Rattle.toml_span_lex.specs.declared.pieces.Piece.{Piece}
use Rattle.toml_span_lex.specs.Text.{LineEnd, NoLineEnd}
use Rattle.toml_span_lex.specs.Escapes.{simple_escape, hex_len, hex_value, is_hex, HexRun, IsEscape}
use Rattle.toml_span_lex.specs.Pieces.{is_ws_or_newline, IsDropped, IsPiece, piece_value, IsClose}
use Rattle.toml_span_lex.specs.Strings.{Cut, content, content_end, HasChange}
use Rattle.toml_span_lex.specs.code.Strings.{Kept, Ends}

-- two parts of a text side by side
pub slice_join : (text : List ℕ) (i j k : ℕ) → i ≤ j → j ≤ k → slice_range text i j ++ slice_range text j k ≡ slice_range text i k
slice_join text i j k f g =
    let all : k - i ≡ (j - i) + (k - j) = omega arith in
    let at : i + (j - i) ≡ j = omega arith in
    rw (all, take-add, drop-drop, at) refl

-- a kept content is no longer than the text
pub kept_length : {Z : Type 0} (q : ℕ) (text : List ℕ) (from at : ℕ) (v : List ℕ) (kept : Option (String Z)) → from ≤ at → Kept q text from at v kept → length v + from ≤ at
kept_length q text from at v kept f e = grind (arith, nat_tests, common_steps)

simple_value : (b c : ℕ) → simple_escape b ≡ Some c → c < 128
simple_value b c e = grind (arith, nat_tests)

two_hex : (ds : List ℕ) → length ds ≡ 2 → digit_value (get_or ds 0 0) < 16 → digit_value (get_or ds 1 0) < 16 → digits_value 16 ds < 256
two_hex ds l f g = grind (arith, common_steps)

hex_len_cases : (b : ℕ) → 0 < hex_len b → (hex_len b ≡ 2) ⊎ (4 ≤ hex_len b)
hex_len_cases b h = grind (arith, nat_tests)

hex_digit : (c : ℕ) → is_hex c ≡ true → digit_value c < 16
hex_digit c h = grind (arith, nat_tests)

two_value : (text : List ℕ) (a : ℕ) → HexRun text a (a + 2) → hex_value text a 2 < 256
two_value text a r =
    let zero_lt : 0 < 2 = omega arith in
    let one_lt : 1 < 2 = omega arith in
    two_hex (take 2 (drop a text)) (omega (arith, length-take 2 (drop a text), length-drop a text, r.within))
    (rw (get_or-take, get_or-drop) (hex_digit (get_or text (a + 0) 0) (r.digits (a + 0) (omega arith) (omega arith))))
    (rw (get_or-take, get_or-drop) (hex_digit (get_or text (a + 1) 0) (r.digits (a + 1) (omega arith) (omega arith))))

-- the value of an escape is shorter than the escape
pub escape_shorter : (text : List ℕ) (i c j : ℕ) → IsEscape text (i + 1) c j → length (encode_utf8 c) + i < j
escape_shorter text i c j (inl h) = let small = simple_value (get_or text (i + 1) 0) c h.0 in grind (arith, length-encode, len_utf8_ascii)
escape_shorter text i c j (inr h) =
    let two : hex_len (get_or text (i + 1) 0) ≡ 2 → c < 256 = λ e. (let run : HexRun text ((i + 1) + 1) (((i + 1) + 1) + 2) = rw (h.2.1, e) at h.2.0 in rw (h.2.2, e) (two_value text ((i + 1) + 1) run)) in
    grind (arith, nat_tests, length-encode, len_utf8_bounds c, hex_len_cases, h.2.1)

pub line_forward : (text : List ℕ) (i j : ℕ) → LineEnd text i j → i < j
line_forward text i j h = grind (arith, nat_tests)

pub line_feed : (text : List ℕ) (i j : ℕ) → LineEnd text i j → j ≡ i + 1 → 10 ∷ [] ≡ slice_range text i j
line_feed text i j h e = grind (arith, common_steps, nat_tests)

pub crlf_shorter : (text : List ℕ) (i j : ℕ) → LineEnd text i j → (j ≡ i + 1 → ⊥) → 1 + i < j
crlf_shorter text i j h n = grind (arith, nat_tests)

pub crlf_return : (text : List ℕ) (i j : ℕ) → LineEnd text i j → (j ≡ i + 1 → ⊥) → get_or text i 0 ≡ carriage_return
crlf_return text i j h n = grind (arith, nat_tests)

pub dropped_shorter : (text : List ℕ) (i j : ℕ) → IsDropped text (i + 1) j → i < j
dropped_shorter text i j (k, l, run, line, gap) = let f = line_forward text k l line in omega arith

-- Where white space begins and no line end follows its spaces and tabs, there is one of these at least.
pub blanks_forward : (text : List ℕ) (i j : ℕ) → i < length text → is_ws_or_newline text i ≡ true → MaximalRun is_blank text i j → NoLineEnd text j → i < j
blanks_forward text i j l gap run none = grind (arith, nat_tests, run.stops, run.forward)

-- a backslash or a carriage return here is a change between any offset before it and any offset after it
pub change_at : (q : ℕ) (text : List ℕ) (from at next : ℕ) → from ≤ at → at < next → ((q ≡ quotation_mark) × (get_or text at 0 ≡ backslash)) ⊎ (get_or text at 0 ≡ carriage_return) → HasChange q text from next
change_at q text from at next f on is = (at, f, on, is)

pub HasChange-more : (q : ℕ) (text : List ℕ) (from at next : ℕ) → at ≤ next → HasChange q text from at → HasChange q text from next
HasChange-more q text from at next on (k, f, below, is) = (k, f, omega arith, is)

pub change_more : {A E : Type 0} (q : ℕ) (text : List ℕ) (from at next : ℕ) (r : Result A E) → at ≤ next → IfErr r (λ e. HasChange q text from at) → IfErr r (λ e. HasChange q text from next)
change_more q text from at next r on h = grind (arith, nat_tests, common_steps)

-- a piece that is shorter than its text goes into a text of its own
pub kept_own : {Z : Type 0} (q : ℕ) (text : List ℕ) (from at next : ℕ) (v w : List ℕ) (kept : Option (String Z)) (s : String Z) → from ≤ at → Kept q text from at v kept → HasChange q text from next → length w + at < next → string_bytes s ≡ v ++ w → Kept q text from next (v ++ w) (Some s)
kept_own q text from at next v w kept s f k change h e = (e, omega (arith, length-append v w, kept_length q text from at v kept f k), change)

-- one more piece
pub Cut-more : (q : ℕ) (m : Bool) (text : List ℕ) (i j k : ℕ) (ps : List (Piece × ℕ)) (p : Piece) → Cut q m text i ps j → IsPiece q m text j k p → Cut q m text i (ps ++ (p, k) ∷ []) k
Cut-more q m text i j k [] p e h = ((rw e h), refl)
Cut-more q m text i j k (x ∷ ps) p c h = (c.0, Cut-more q m text x.1 j k ps p c.1 h)

pub content-more : (q : ℕ) (m : Bool) (text : List ℕ) (i j k : ℕ) (ps : List (Piece × ℕ)) (p : Piece) → Cut q m text i ps j → content text i (ps ++ (p, k) ∷ []) ≡ content text i ps ++ piece_value text j k p
content-more q m text i j k [] p e = rw e (append-nil _)
content-more q m text i j k (x ∷ ps) p c = rw (content-more q m text x.1 j k ps p c.1) (sym (append_assoc (piece_value text i x.1 x.0) (content text x.1 ps) (piece_value text j k p)))

pub piece_forward : (q : ℕ) (m : Bool) (text : List ℕ) (i j : ℕ) (p : Piece) → IsPiece q m text i j p → i < j
piece_forward q m text i j p h = grind (arith, nat_tests, common_steps)

pub Cut-forward : (q : ℕ) (m : Bool) (text : List ℕ) (i j : ℕ) (ps : List (Piece × ℕ)) → Cut q m text i ps j → i ≤ j
Cut-forward q m text i j [] e = omega arith
Cut-forward q m text i j (p ∷ ps) c = let f = piece_forward q m text i p.1 p.0 c.0 in let g = Cut-forward q m text p.1 j ps c.1 in omega arith

-- where a string closes
pub record Closing (q : ℕ) (m : Bool) (text : List ℕ) (at end : ℕ) : Type 0 where
  pub on : at ≤ content_end m end
  pub some : content_end m end < end
  pub within : end ≤ length text
  pub first : get_or text (content_end m end) 0 ≡ q
  pub last : get_or text (end - 1) 0 ≡ q

pub closing : (q : ℕ) (m : Bool) (text : List ℕ) (at end : ℕ) → IsClose q m text at end → Closing q m text at end
closing q m text at end h = grind (arith, nat_tests, common_steps)

pub ends : (q : ℕ) (m : Bool) (text : List ℕ) (from at end : ℕ) → IsUtf8 text → q < 128 → from ≤ at → IsClose q m text at end → Ends text from (content_end m end) end
ends q m text from at end u a f h =
    let c = closing q m text at end h in
    record {
      forward = omega (arith, c.on);
      on = c.some;
      within = c.within;
      to_boundary = IsCharBoundary-before_ascii text (content_end m end) (omega (arith, c.some, c.within)) (omega (arith, c.first));
      end_boundary = after_ascii text (end - 1) end (omega (arith, c.some)) u (omega (arith, c.some, c.within)) (omega (arith, c.last));
    }
