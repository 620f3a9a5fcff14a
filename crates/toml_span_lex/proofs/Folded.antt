-- Character by character, the folded text.
use Rattle.toml_span_lex.proofs.Common.{◌≡◌, ℕ, ◌+◌, Bool, true, false, List, ◌∷◌, ◌++◌, get_or, drop, arith, inl, inr, sym, ◌∙◌, refl, ap, get_or-drop, add-zero, ◌==◌, ◌&&◌, slice_index, encode_utf8, len_utf8, IsUtf8, chars, chars_past_char, encode_ascii, encodes-chars, byte_from_char, IsUtf8-past_char, false≢true, and_parts, nat_tests, common_steps}
use Rattle.std.proofs.Math.Utf8.{encodes}
use Rattle.std.proofs.lemmas.Bool.{eqb-true}
use Rattle.toml_span_lex.specs.Text.{is_crlf, CharAt, folded_from, folded}
use Rattle.toml_span_lex.proofs.Unique.{is_false}

pub second : (text : List ℕ) (i : ℕ) → is_crlf text i ≡ true → get_or text (i + 1) 0 ≡ 10
second text i h = grind (arith, nat_tests)

crlf_drop : (text : List ℕ) (i : ℕ) → is_crlf text i ≡ true → drop i text ≡ 13 ∷ 10 ∷ drop (i + 2) text
crlf_drop text i h = grind (arith, common_steps, nat_tests)

crlf_chars : (text : List ℕ) (i : ℕ) → IsUtf8 (drop i text) → is_crlf text i ≡ true → chars (drop i text) ≡ 13 ∷ 10 ∷ chars (drop (i + 2) text)
crlf_chars text i u h =
    let rest = drop (i + 2) text in
    let d : drop i text ≡ encode_utf8 13 ++ (10 ∷ rest) = rw (encode_ascii 13 (omega arith)) (crlf_drop text i h) in
    let u2 : IsUtf8 (10 ∷ rest) = IsUtf8-past_char (drop i text) (10 ∷ rest) 13 u d in
    let d2 : 10 ∷ rest ≡ encode_utf8 10 ++ rest = rw (encode_ascii 10 (omega arith)) refl in
    chars_past_char (drop i text) (10 ∷ rest) 13 u d ∙ ap (λ x. 13 ∷ x) (chars_past_char (10 ∷ rest) rest 10 u2 d2)

-- the first character of a text, where it is a line feed, is its first byte
feed_byte : (cs bs : List ℕ) → encodes cs ≡ bs → slice_index cs 0 ≡ 10 → get_or bs 0 0 ≡ 10
feed_byte cs bs e h = grind (arith, nat_tests, common_steps)

first_feed : (bs : List ℕ) → IsUtf8 bs → slice_index (chars bs) 0 ≡ 10 → get_or bs 0 0 ≡ 10
first_feed bs u h = feed_byte (chars bs) bs (encodes-chars bs u) h

not_after : (j : ℕ) (t : Bool) (cs : List ℕ) → (t && slice_index cs 0 == 10) ≡ false → folded_from j t cs ≡ folded_from j false cs
not_after j t cs h = grind (arith, nat_tests, common_steps)

crlf_from : (text : List ℕ) (i : ℕ) → get_or text i 0 ≡ 13 → get_or text (i + 1) 0 ≡ 10 → is_crlf text i ≡ true
crlf_from text i a b = rw (a, b) refl

apart : (text : List ℕ) (i c j : ℕ) → IsUtf8 (drop i text) → is_crlf text i ≡ false → j ≡ i + len_utf8 c → drop i text ≡ encode_utf8 c ++ drop j text → (c == 13 && slice_index (chars (drop j text)) 0 == 10) ≡ false
apart text i c j u f e d =
    is_false _ (λ y.
    let parts = and_parts _ _ y in
    let is : c ≡ 13 = eqb-true c 13 parts.0 in
    let feed = first_feed (drop j text) (IsUtf8-past_char (drop i text) (drop j text) c u d) (eqb-true _ 10 parts.1) in
    let here : get_or (drop i text) 0 0 ≡ c = byte_from_char (drop i text) (drop j text) c d (omega arith) in
    let len : len_utf8 13 ≡ 1 = refl in
    let one : len_utf8 c ≡ 1 = rw is len in
    let at : j ≡ i + 1 = e ∙ (rw one refl) in
    let first : get_or text i 0 ≡ 13 = ap (λ n. get_or text n 0) (sym (add-zero i)) ∙ (sym (get_or-drop i text 0 0) ∙ (here ∙ is)) in
    let next : get_or text (i + 1) 0 ≡ 10 = ap (λ n. get_or text n 0) (sym (add-zero (i + 1)) ∙ ap (λ n. n + 0) (sym at)) ∙ (sym (get_or-drop j text 0 0) ∙ feed) in
    false≢true (sym f ∙ crlf_from text i first next))

pub folded_step : (text : List ℕ) (i c j : ℕ) → IsUtf8 (drop i text) → CharAt text i c j → folded text i ≡ (i, c) ∷ folded text j
folded_step text i c j u (inl h) =
    let two : (i + 1) + 1 ≡ i + 2 = omega arith in
    rw (crlf_chars text i u h.0, h.1, h.2) (ap (λ n. (i, 10) ∷ folded_from n false (chars (drop (i + 2) text))) two)
folded_step text i c j u (inr h) =
    let t = apart text i c j u h.0 h.1 h.2 in
    let rest = not_after (i + len_utf8 c) (c == 13) (chars (drop j text)) t in
    rw (chars_past_char (drop i text) (drop j text) c u h.2, t, rest) (ap (λ n. (i, c) ∷ folded_from n false (chars (drop j text))) (sym h.1))
