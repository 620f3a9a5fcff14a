-- Where a run ends, the text may be cut.
use Rattle.toml_span_lex.proofs.Common.{◌≡◌, ℕ, ◌+◌, ◌-◌, ◌<◌, ◌≤◌, ◌⊎◌, Bool, true, false, List, ◌++◌, length, get_or, drop, arith, inl, inr, sym, ◌∙◌, get_or-drop, add-zero, length-drop, refl, ap, encode_utf8, ◌||◌, ◌==◌, len_utf8, IsUtf8, IsCharBoundary, IsCharBoundary-after_ascii, IsUtf8-drop, IsCharBoundary-past_char, drop_past_char, byte_from_char, char_from_byte, length-encode, len_utf8_bounds, cases_lt, false≢true, common_steps, nat_tests}
use Rattle.toml_span_lex.specs.Bytes.{MaximalRun, is_blank, is_keylike, is_printed}
use Rattle.toml_span_lex.specs.Text.{is_crlf, CharAt, NoLineEnd}
use Rattle.toml_span_lex.specs.Pieces.{is_ws_or_newline, is_plain}
use Rattle.toml_span_lex.specs.Tokens.{begins_token}

-- a byte that is not 0 is within the text
pub read_within : (text : List ℕ) (i : ℕ) → 0 < get_or text i 0 → i < length text
read_within text i h = grind (arith, common_steps)

-- after an ASCII byte
pub after_ascii : (text : List ℕ) (i j : ℕ) → j ≡ i + 1 → IsUtf8 text → i < length text → get_or text i 0 < 128 → IsCharBoundary text j
after_ascii text i j e u l a = rw e (IsCharBoundary-after_ascii text i u l a)

-- after ASCII bytes
boundary_past : (text : List ℕ) (i j : ℕ) → IsUtf8 text → IsCharBoundary text i → i ≤ j → j ≤ length text → ((k : ℕ) → i ≤ k → k < j → get_or text k 0 < 128) → IsCharBoundary text j
boundary_past text i j u b f w low =
    elim (cases_lt i j) [
      | inl lt ↦ after_ascii text (j - 1) j (omega arith) u (omega arith) (low (j - 1) (omega arith) (omega arith))
      | inr ge ↦ let e : i ≡ j = omega arith in rw e at b
    ]

pub boundary_after : (p : ℕ → Bool) (text : List ℕ) (i j : ℕ) → ((c : ℕ) → p c ≡ true → c < 128) → IsUtf8 text → IsCharBoundary text i → i ≤ j → j ≤ length text → ((k : ℕ) → i ≤ k → k < j → p (get_or text k 0) ≡ true) → IsCharBoundary text j
boundary_after p text i j ascii u b f w passes = boundary_past text i j u b f w (λ k x y. ascii _ (passes k x y))

-- a run whose first byte passes has that byte at least
pub run_forward : (p : ℕ → Bool) (text : List ℕ) (i j : ℕ) → i < length text → p (get_or text i 0) ≡ true → MaximalRun p text i j → i < j
run_forward p text i j l h run = grind (arith, run.stops, run.forward)

pub blank_ascii : (c : ℕ) → is_blank c ≡ true → c < 128
blank_ascii c h = grind arith

pub keylike_ascii : (c : ℕ) → is_keylike c ≡ true → c < 128
keylike_ascii c h = grind arith

pub crlf_first : (text : List ℕ) (i : ℕ) → is_crlf text i ≡ true → get_or text i 0 ≡ 13
crlf_first text i h = grind arith

pub char_within : (text : List ℕ) (i c j : ℕ) → CharAt text i c j → i < length text
char_within text i c j h = grind (arith, common_steps, nat_tests, length-encode, len_utf8_bounds)

gap_ascii : (text : List ℕ) (i : ℕ) → is_ws_or_newline text i ≡ true → get_or text i 0 < 128
gap_ascii text i h = grind (arith, nat_tests)

-- after a carriage return with a line feed
pub after_line : (text : List ℕ) (i : ℕ) → IsUtf8 text → is_crlf text i ≡ true → IsCharBoundary text (i + 2)
after_line text i u h =
    let nl : get_or text (i + 1) 0 ≡ 10 = grind arith in
    after_ascii text (i + 1) (i + 2) (omega arith) u (read_within text (i + 1) (omega arith)) (omega arith)

pub boundary_gap : (text : List ℕ) (i j : ℕ) → IsUtf8 text → IsCharBoundary text i → i ≤ j → j ≤ length text → ((k : ℕ) → i ≤ k → k < j → is_ws_or_newline text k ≡ true) → IsCharBoundary text j
boundary_gap text i j u b f w passes = boundary_past text i j u b f w (λ k x y. gap_ascii text k (passes k x y))

-- a character that was decoded
pub char_found : (text rest : List ℕ) (i w c : ℕ) → is_crlf text i ≡ false → w ≡ len_utf8 c → drop i text ≡ encode_utf8 c ++ rest → CharAt text i c (i + w)
char_found text rest i w c f e d =
    let past : drop (i + w) text ≡ rest = rw e (drop_past_char text rest i c d) in
    inr (f, ap (λ n. i + n) e, rw past d)

pub char_boundary : (text rest : List ℕ) (i w c : ℕ) → IsUtf8 text → IsCharBoundary text i → w ≡ len_utf8 c → drop i text ≡ encode_utf8 c ++ rest → IsCharBoundary text (i + w)
char_boundary text rest i w c u b e d =
    rw e (IsCharBoundary-past_char text rest i c b.0 (IsUtf8-drop text i u b) d)

pub neither : (a b : Bool) → a ≡ false → b ≡ false → (a || b) ≡ false
neither a b h k = rw h k

pub past_ascii : (c : ℕ) → 128 ≤ c → begins_token c ≡ false
past_ascii c h = grind (arith, nat_tests)

-- A character is its first byte, or both are past ASCII, except for a line end of two bytes.
char_byte : (text : List ℕ) (i c j : ℕ) → is_crlf text i ≡ false → CharAt text i c j → (c ≡ get_or text i 0) ⊎ ((128 ≤ c) × (128 ≤ get_or text i 0))
char_byte text i c j f (inl h) = absurd (false≢true (sym f ∙ h.0))
char_byte text i c j f (inr h) =
    let first : get_or (drop i text) 0 0 ≡ get_or text i 0 = rw (get_or-drop, add-zero) refl in
    let ascii : c < 128 → c ≡ get_or text i 0 = λ low. sym (byte_from_char (drop i text) (drop j text) c h.2 low) ∙ first in
    elim (cases_lt c 128) [
      | inl low ↦ inl (ascii low)
      | inr high ↦ inr (
        high,
        elim (cases_lt (get_or text i 0) 128) [
          | inl low ↦ absurd (omega (arith, first, char_from_byte (drop i text) (drop j text) c h.2 (omega arith) (omega (arith, length-drop i text, char_within text i c j (inr h)))))
          | inr past ↦ past
        ],
      )
    ]

-- So a test that has one result for everything past ASCII has the same result for the byte and for the character.
char_same : (p : ℕ → Bool) (text : List ℕ) (i c j : ℕ) → ((d : ℕ) → 128 ≤ d → p d ≡ p 128) → is_crlf text i ≡ false → CharAt text i c j → p c ≡ p (get_or text i 0)
char_same p text i c j past f h = elim (char_byte text i c j f h) [ inl e ↦ ap p e | inr high ↦ past c high.0 ∙ sym (past (get_or text i 0) high.1) ]

pub char_fails : (p : ℕ → Bool) (text : List ℕ) (i c j : ℕ) → ((d : ℕ) → 128 ≤ d → p d ≡ false) → p 10 ≡ false → p (get_or text i 0) ≡ false → CharAt text i c j → p c ≡ false
char_fails p text i c j past ten b h = grind (arith, nat_tests, common_steps)

-- what does not pass past ASCII, nor at a carriage return, does not pass at the first byte of a character that does not
pub char_shut : (p : ℕ → Bool) (text : List ℕ) (i c j : ℕ) → ((d : ℕ) → 128 ≤ d → p d ≡ p 128) → p 13 ≡ false → CharAt text i c j → p c ≡ false → p (get_or text i 0) ≡ false
char_shut p text i c j past t (inl h) n = rw (crlf_first text i h.0) t
char_shut p text i c j past t (inr h) n = sym (char_same p text i c j past h.0 (inr h)) ∙ n

-- where no byte begins a token, no character does
pub begins_none : (text : List ℕ) (i c j : ℕ) → is_crlf text i ≡ false → i < length text → begins_token (get_or text i 0) ≡ false → CharAt text i c j → begins_token c ≡ false
begins_none text i c j f l b h = char_same begins_token text i c j past_ascii f h ∙ b

pub neither_line : (text : List ℕ) (i c j : ℕ) → NoLineEnd text i → get_or text i 0 < 128 → i < length text → CharAt text i c j → c ≡ get_or text i 0
neither_line text i c j n low l h = elim (char_byte text i c j n.1 h) [ inl e ↦ e | inr high ↦ absurd (omega (arith, high.1)) ]

pub equal_ascii : (q : ℕ) → q < 128 → (c : ℕ) → (c == q) ≡ true → c < 128
equal_ascii q l c h = grind (arith, nat_tests)

pub not_plain : (q c : ℕ) → is_plain q c ≡ false → (c ≡ q → ⊥) → (c ≡ 92 → ⊥) → is_printed c ≡ false
not_plain q c h n m = grind (arith, nat_tests)

pub unprinted_ascii : (c : ℕ) → is_printed c ≡ false → c < 128
unprinted_ascii c h = grind (arith, nat_tests)

-- what strings can't have as it is
pub special_ascii : (q : ℕ) → q < 128 → (c : ℕ) → is_plain q c ≡ false → c < 128
special_ascii q l c h = grind (arith, nat_tests)
