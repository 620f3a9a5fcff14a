-- Where a token begins, no fault occurs.
use Rattle.toml_span_lex.proofs.Common.{◌≡◌, ℕ, ◌⊎◌, true, false, Ok, Err, List, get_or, arith, inl, inr, sym, ◌∙◌, refl, ◌==◌, nat_tests, false≢true}
use Rattle.toml_span_lex.specs.declared.tokens.Error.{Error}
use Rattle.toml_span_lex.specs.declared.span.Span.{Span}
use Rattle.toml_span_lex.specs.Bytes.{is_printed}
use Rattle.toml_span_lex.specs.Text.{is_crlf}
use Rattle.toml_span_lex.specs.Strings.{IsNoString}
use Rattle.toml_span_lex.specs.Tokens.{Lexeme, whitespace, newline, comment, punctuator, keylike, string, begins_token, IsLexeme, IsNoToken}
use Rattle.toml_span_lex.proofs.OneFault.{stray, string_one}
use Rattle.toml_span_lex.proofs.OneToken.{tag_of, token_tag, same_token_tag}
use Rattle.toml_span_lex.proofs.Unique.{or_true}

-- of the characters that no comment holds, the line feed alone begins a token
pub unprinted_begins : (b : ℕ) → is_printed b ≡ false → (b == 10) ≡ false → begins_token b ≡ false
unprinted_begins b shut line = grind (arith, nat_tests)

pub quote_token : (b : ℕ) → (b ≡ 34) ⊎ (b ≡ 39) → tag_of b ≡ 5
unfolding tag_of
quote_token b u = grind (arith, nat_tests)

token_begins : (text : List ℕ) (i j : ℕ) (s : Span) (l : Lexeme) → IsLexeme text i j s l → (begins_token (get_or text i 0) ≡ true) ⊎ (is_crlf text i ≡ true)
token_begins text i j s (whitespace x) h = inl (rw (h.0.1.passes i (omega arith) h.0.0) refl)
token_begins text i j s newline (inl h, e) = inl (rw h.0 refl)
token_begins text i j s newline (inr h, e) = inr h.0
token_begins text i j s (comment x) h = inl (rw h.0.0 refl)
token_begins text i j s (punctuator c) h = inl (rw (h.0.1, h.0.0, or_true) refl)
token_begins text i j s (keylike x) h = inl (rw (h.0.1.passes i (omega arith) h.0.0, or_true) refl)
token_begins text i j s (string src v m) h = inl (elim h.quote [ inl e ↦ rw e refl | inr e ↦ rw e refl ])

no_string_fault : (text : List ℕ) (i j k : ℕ) (s : Span) (l : Lexeme) (e : Error) → IsLexeme text i j s l → token_tag l ≡ 5 → IsNoString text i k e → ⊥
unfolding token_tag
no_string_fault text i j k s (string src v m) e a t f = let x = string_one text i (Ok (s, string src v m, j)) (Err (e, k)) a f in cc
no_string_fault text i j k s l e a t f = absurd (omega arith)

pub token_or_fault : (text : List ℕ) (i j k : ℕ) (s : Span) (l : Lexeme) (e : Error) → IsLexeme text i j s l → IsNoToken text i k e → ⊥
token_or_fault text i j k s l e a (inl f) = let x = stray text i k e f in elim (token_begins text i j s l a) [ inl h ↦ false≢true (sym x.byte ∙ h) | inr h ↦ false≢true (sym x.one ∙ h) ]
token_or_fault text i j k s l e a (inr f) = no_string_fault text i j k s l e a (same_token_tag text i j s l a ∙ quote_token (get_or text i 0) f.quote) f
