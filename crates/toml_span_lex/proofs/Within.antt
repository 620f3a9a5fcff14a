-- Where tokens and faults end: within the text, and not between the two bytes of a line end.
use Rattle.toml_span_lex.proofs.Common.{common_steps, ◌≡◌, ℕ, ◌+◌, ◌-◌, ◌<◌, ◌≤◌, ◌⊎◌, Bool, true, false, List, ◌++◌, length, get_or, drop, arith, inl, inr, refl, ap, get_or-drop, length-append, length-drop, ◌==◌, encode_utf8, len_utf8, cases_lt, get_or_past, length-encode, len_utf8_ascii, len_utf8_bounds, and-false, nat_tests}
use Rattle.toml_span_lex.specs.declared.tokens.Error.{Error}
use Rattle.toml_span_lex.specs.declared.tokens.Error.TheVariants as errors
use Rattle.toml_span_lex.specs.declared.span.Span.{Span}
use Rattle.toml_span_lex.specs.Bytes.{MaximalRun, is_blank, is_keylike, is_printed}
use Rattle.toml_span_lex.specs.Text.{CharAt, LineEnd, KeepsLineEnd}
use Rattle.toml_span_lex.specs.Escapes.{hex_len, is_hex, IsHexFault, IsEscapeFault}
use Rattle.toml_span_lex.specs.Pieces.{IsContentFault}
use Rattle.toml_span_lex.specs.Tokens.{Lexeme, whitespace, newline, comment, punctuator, keylike, string, is_punctuator, IsLexeme, IsNoToken}
use Rattle.toml_span_lex.proofs.Copies.{content_fits}
use Rattle.toml_span_lex.proofs.MadeStrings.{content_from_after}
use Rattle.toml_span_lex.proofs.OneFault.{stray}
use Rattle.toml_span_lex.proofs.PieceLemmas.{Cut-forward, closing}
use Rattle.toml_span_lex.proofs.Runs.{read_within, char_within, run_forward}
use Rattle.toml_span_lex.proofs.Unique.{differs}

abbrev Ends : List ℕ → ℕ → ℕ → Type 0
Ends text i j = (i ≤ j) × (j ≤ length text) × KeepsLineEnd text j

further : (text : List ℕ) (i k j : ℕ) → i ≤ k → Ends text k j → Ends text i j
further text i k j l e = (omega (arith, e.0), e.1, e.2)

after_byte : (text : List ℕ) (i j : ℕ) → j ≡ i + 1 → i < length text → (get_or text i 0 == 13) ≡ false → Ends text (i + 1) j
after_byte text i j e l h = (omega arith, omega arith, λ k at. (let same : k ≡ i = omega arith in rw (same, h) refl))

at_the_end : (text : List ℕ) (i j : ℕ) → i ≤ j → j ≡ length text → Ends text i j
at_the_end text i j l e = (l, omega arith, λ k at. (let past : get_or text (k + 1) 0 ≡ 0 = get_or_past text (k + 1) 0 (omega arith) in rw (past, and-false) refl))

after_run : (p : ℕ → Bool) (text : List ℕ) (i j : ℕ) → p 13 ≡ false → i < j → j ≤ length text → ((k : ℕ) → i ≤ k → k < j → p (get_or text k 0) ≡ true) → Ends text (i + 1) j
after_run p text i j shut f w passes = grind (arith, nat_tests, common_steps)

line_ends : (text : List ℕ) (i j : ℕ) → LineEnd text i j → Ends text (i + 1) j
line_ends text i j h = grind (arith, nat_tests, common_steps)

-- ---- characters

last_high : (c : ℕ) (rest : List ℕ) → 128 ≤ c → 128 ≤ get_or (encode_utf8 c ++ rest) (len_utf8 c - 1) 0
unfolding lib.Utf8.encode
last_high c rest h = grind (arith, nat_tests, common_steps)

high_byte : (b : ℕ) → 128 ≤ b → (b == 13) ≡ false
high_byte b h = grind (arith, nat_tests)

char_ends : (text : List ℕ) (i c j : ℕ) → CharAt text i c j → Ends text (i + 1) j
char_ends text i c j (inl h) = line_ends text i j (inr (h.0, h.2))
char_ends text i c j (inr h) =
    let n = len_utf8_bounds c in
    let within : j ≤ length text = omega (arith, h.1, char_within text i c j (inr h), length-drop i text, length-drop j text, ap length h.2, length-append (encode_utf8 c) (drop j text), length-encode c) in (
      omega (arith, h.1, n.0),
      within,
      λ k at. elim (cases_lt c 128) [
        | inl low ↦ let same : k ≡ i = omega (arith, h.1, len_utf8_ascii c low) in rw same h.0
        | inr high ↦
            let from : k ≡ i + (len_utf8 c - 1) = omega (arith, h.1, n.0) in
            let last : 128 ≤ get_or (drop i text) (len_utf8 c - 1) 0 = rw h.2 (last_high c (drop j text) high) in
            let here : 128 ≤ get_or text k 0 = rw from (rw get_or-drop at last) in rw (high_byte (get_or text k 0) here) refl
      ],
    )

pub after_char : (text : List ℕ) (i c j : ℕ) → CharAt text i c j → KeepsLineEnd text j
after_char text i c j h = (char_ends text i c j h).2

-- ---- tokens

quote_no_return : (b : ℕ) → (b ≡ 34) ⊎ (b ≡ 39) → (b == 13) ≡ false
quote_no_return b h = grind (arith, nat_tests, common_steps)

sign_some : (c : ℕ) → is_punctuator c ≡ true → 0 < c
sign_some c h = grind (arith, nat_tests)

token_ends : (text : List ℕ) (i j : ℕ) (s : Span) (l : Lexeme) → IsLexeme text i j s l → Ends text (i + 1) j
token_ends text i j s (whitespace x) h = after_run is_blank text i j refl h.0.0 h.0.1.within h.0.1.passes
token_ends text i j s newline h = line_ends text i j h.0
token_ends text i j s (comment x) h = after_run is_printed text i j refl h.0.1.0 h.0.1.1.within h.0.1.1.passes
token_ends text i j s (punctuator c) h = after_byte text i j h.0.2 (read_within text i (rw h.0.1 (sign_some c h.0.0))) (rw h.0.1 (differs is_punctuator c 13 h.0.0))
token_ends text i j s (keylike x) h = after_run is_keylike text i j refl h.0.0 h.0.1.within h.0.1.passes
token_ends text i j s (string src v m) h =
    let q = get_or text i 0 in
    let c = closing q m text h.content_is.at j h.content_is.closes in
    let fits = content_fits q m text v h.from h.to j h.content_is in
    further text (i + 1) ((j - 1) + 1) j (omega (arith, fits.0, fits.1, content_from_after m text i h.from h.begins))
    (after_byte text (j - 1) j (omega (arith, c.some)) (omega (arith, c.some, c.within)) (rw c.last (quote_no_return q h.quote)))

pub token_within : (text : List ℕ) (i j : ℕ) (s : Span) (l : Lexeme) → IsLexeme text i j s l → (i < j) × (j ≤ length text)
token_within text i j s l h = let e = token_ends text i j s l h in (omega (arith, e.0), e.1)

pub after_token : (text : List ℕ) (i j : ℕ) (s : Span) (l : Lexeme) → KeepsLineEnd text i → IsLexeme text i j s l → KeepsLineEnd text j
after_token text i j s l b h = (token_ends text i j s l h).2

-- a comment has its first byte at least
pub comment_forward : (text : List ℕ) (i j : ℕ) → get_or text i 0 ≡ 35 → MaximalRun is_printed text i j → i < j
comment_forward text i j e run = run_forward is_printed text i j (read_within text i (omega (arith, e))) (rw e refl) run

-- ---- faults

hex_ends : (start : ℕ) (text : List ℕ) (i n j : ℕ) (e : Error) → i < length text → 0 < n → IsHexFault start text i n j e → Ends text (i + 1) j
hex_ends start text i n j (errors.UnterminatedString s) l some h = at_the_end text (i + 1) j (omega (arith, h.1)) h.1
hex_ends start text i n j (errors.InvalidHexEscape at c) l some h = further text (i + 1) (at + 1) j (omega (arith, h.0)) (char_ends text at c j h.3)
hex_ends start text i n j (errors.InvalidEscapeValue at m v) l some h = further text (i + 1) ((i + 1) + 1) j (omega arith) (after_run is_hex text (i + 1) j refl (omega (arith, h.4)) h.3.within h.3.digits)
hex_ends start text i n j e l some h = absurd h

escape_ends : (start : ℕ) (text : List ℕ) (i j : ℕ) (e : Error) → IsEscapeFault start text i j e → Ends text i j
escape_ends start text i j e (inl a) = at_the_end text i j (omega (arith, a.2)) (omega (arith, a.1, a.2))
escape_ends start text i j e (inr (inl (c, is, shut, at))) = further text i (i + 1) j (omega arith) (char_ends text i c j at)
escape_ends start text i j e (inr (inr a)) = further text i (i + 1) j (omega arith) (hex_ends start text i (hex_len (get_or text i 0)) j e a.1 a.0 a.2)

content_ends : (q : ℕ) (m : Bool) (start : ℕ) (text : List ℕ) (i j : ℕ) (e : Error) → IsContentFault q m start text i j e → Ends text i j
content_ends q m start text i j e (inl a) = at_the_end text i j (omega (arith, a.2)) (omega (arith, a.1, a.2))
content_ends q m start text i j e (inr (inl a)) = further text i (i + 1) j (omega arith) (line_ends text i j a.2)
content_ends q m start text i j e (inr (inr (inl (c, is, n, line, at)))) = further text i (i + 1) j (omega arith) (char_ends text i c j at)
content_ends q m start text i j e (inr (inr (inr (inl a)))) = further text i (i + 1) j (omega arith) (escape_ends start text (i + 1) j e a.3)
content_ends q m start text i j e (inr (inr (inr (inr a)))) = further text i ((i + 1) + 1) j (omega arith) (after_run is_blank text (i + 1) j refl a.3 a.4.within a.4.passes)

fault_ends : (text : List ℕ) (i j : ℕ) (e : Error) → IsNoToken text i j e → Ends text (i + 1) j
fault_ends text i j e (inl a) = let s = stray text i j e a in char_ends text i s.c j s.char
fault_ends text i j e (inr a) =
    let f = a.fault in
    further text (i + 1) f.at j (omega (arith, content_from_after _ text i a.from a.begins, Cut-forward (get_or text i 0) _ text a.from f.at f.pieces f.cut)) (content_ends (get_or text i 0) _ i text f.at j e f.fault)

pub fault_within : (text : List ℕ) (i j : ℕ) (e : Error) → IsNoToken text i j e → (i < j) × (j ≤ length text)
fault_within text i j e h = let f = fault_ends text i j e h in (omega (arith, f.0), f.1)

pub after_fault : (text : List ℕ) (i j : ℕ) (e : Error) → IsNoToken text i j e → KeepsLineEnd text j
after_fault text i j e h = (fault_ends text i j e h).2
