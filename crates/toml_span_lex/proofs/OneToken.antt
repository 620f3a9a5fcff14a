-- At most one token begins at a place.
use Rattle.toml_span_lex.proofs.Common.{◌≡◌, ℕ, true, Ok, List, get_or, arith, inl, inr, sym, ◌∙◌, refl, ap, ◌==◌, if◌then◌else◌, nat_tests}
use Rattle.toml_span_lex.specs.declared.span.Span.{Span}
use Rattle.toml_span_lex.specs.Bytes.{is_blank, is_keylike, is_printed}
use Rattle.toml_span_lex.specs.Tokens.{Lexeme, whitespace, newline, comment, punctuator, keylike, string, is_punctuator, IsLexeme}
use Rattle.toml_span_lex.proofs.Runs.{crlf_first}
use Rattle.toml_span_lex.proofs.One.{ok_same}
use Rattle.toml_span_lex.proofs.OneFault.{string_one}
use Rattle.toml_span_lex.proofs.Unique.{run_unique, line_unique}

unfoldable pub tag_of : ℕ → ℕ
tag_of b =
    if is_blank b then 0
    else if b == 10 then 1
    else if b == 13 then 1
    else if b == 35 then 2
    else if is_punctuator b then 3
    else if b == 34 then 5
    else if b == 39 then 5
    else 4

unfoldable pub token_tag : Lexeme → ℕ
token_tag (whitespace s) = 0
token_tag newline = 1
token_tag (comment s) = 2
token_tag (punctuator c) = 3
token_tag (keylike s) = 4
token_tag (string src val multi) = 5

sign_tag : (b : ℕ) → is_punctuator b ≡ true → tag_of b ≡ 3
unfolding tag_of
sign_tag b h = grind (arith, nat_tests)

keylike_tag : (b : ℕ) → is_keylike b ≡ true → tag_of b ≡ 4
unfolding tag_of
keylike_tag b h = grind (arith, nat_tests)

pub same_token_tag : (text : List ℕ) (i j : ℕ) (span : Span) (l : Lexeme) → IsLexeme text i j span l → token_tag l ≡ tag_of (get_or text i 0)
unfolding token_tag tag_of
same_token_tag text i j span (whitespace s) h = rw (h.0.1.passes i (omega arith) h.0.0) refl
same_token_tag text i j span newline (inl h, e) = rw h.0 refl
same_token_tag text i j span newline (inr h, e) = rw (crlf_first text i h.0) refl
same_token_tag text i j span (comment s) h = rw h.0.0 refl
same_token_tag text i j span (punctuator c) h = rw h.0.1 (sym (sign_tag c h.0.0))
same_token_tag text i j span (keylike s) h = sym (keylike_tag (get_or text i 0) (h.0.1.passes i (omega arith) h.0.0))
same_token_tag text i j span (string src val multi) h = elim h.quote [ inl e ↦ rw e refl | inr e ↦ rw e refl ]

parts : (i j k : ℕ) (s t : Span) → j ≡ k → s ≡ record { start = i; end = j } → t ≡ record { start = i; end = k } → s ≡ t
parts i j k s t e a b = a ∙ (rw e (sym b))

both : (text : List ℕ) (i j k : ℕ) (s t : Span) (l r : Lexeme) → IsLexeme text i j s l → IsLexeme text i k t r → token_tag l ≡ token_tag r → (j ≡ k) × (s ≡ t) × (l ≡ r)
unfolding token_tag
both text i j k s t (whitespace x) (whitespace y) a b e =
    let u = run_unique is_blank text i j k a.0.1 b.0.1 in (u, parts i j k s t u a.1 b.1, ap (λ z. whitespace z) (a.0.2 ∙ (rw u (sym b.0.2))))
both text i j k s t newline newline a b e = let u = line_unique text i j k a.0 b.0 in (u, parts i j k s t u a.1 b.1, refl)
both text i j k s t (comment x) (comment y) a b e =
    let u = run_unique is_printed text i j k a.0.1.1 b.0.1.1 in (u, parts i j k s t u a.1 b.1, ap (λ z. comment z) (a.0.1.2 ∙ (rw u (sym b.0.1.2))))
both text i j k s t (punctuator c) (punctuator d) a b e =
    let u : j ≡ k = omega (arith, a.0.2, b.0.2) in (u, parts i j k s t u a.1 b.1, ap (λ z. punctuator z) (sym a.0.1 ∙ b.0.1))
both text i j k s t (keylike x) (keylike y) a b e =
    let u = run_unique is_keylike text i j k a.0.1 b.0.1 in (u, parts i j k s t u a.1 b.1, ap (λ z. keylike z) (a.0.2 ∙ (rw u (sym b.0.2))))
both text i j k s t (string x v m) (string y w n) a b e =
    let same = ok_same (string_one text i (Ok (s, string x v m, j)) (Ok (t, string y w n, k)) a b) in (ap (λ z. z.2) same, ap (λ z. z.0) same, ap (λ z. z.1) same)
both text i j k s t l r a b e = absurd (omega arith)

pub token_unique : (text : List ℕ) (i j k : ℕ) (s t : Span) (l r : Lexeme) → IsLexeme text i j s l → IsLexeme text i k t r → (j ≡ k) × (s ≡ t) × (l ≡ r)
token_unique text i j k s t l r a b = both text i j k s t l r a b (same_token_tag text i j s l a ∙ sym (same_token_tag text i k t r b))
