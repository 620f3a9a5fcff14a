-- What a walk finds is in the text.
use Rattle.toml_span_lex.proofs.Common.{arith, common_steps, nat_tests, ℕ, List, Result, Ok, Err, inl, inr}
use Rattle.toml_span_lex.specs.declared.tokens.Token.{Token}
use Rattle.toml_span_lex.specs.declared.tokens.Error.{Error}
use Rattle.toml_span_lex.specs.Strings.{opens_multi}
use Rattle.toml_span_lex.specs.code.Strings.{ScanGives}
use Rattle.toml_span_lex.specs.Tokens.{Lexeme, string, lexeme, IsToken, IsLexeme}
use Rattle.toml_span_lex.specs.code.Tokens.{FindsToken}
use Rattle.toml_span_lex.specs.Laws.{HasTokenOrFault}

-- a token other than a string, with its span
pub token_stands : (text : List ℕ) (i j : ℕ) (l : Lexeme) → IsToken text i j l → IsLexeme text i j (record { start = i; end = j }) l
token_stands text i j l h = grind (arith, nat_tests, common_steps)

pub found_stands : (text : List ℕ) (i : ℕ) (r : Result (Token × ℕ) (Error × ℕ)) → FindsToken text i r → HasTokenOrFault text i
found_stands text i (Ok (token, j)) h = inr (inl (j, _, lexeme token, token_stands text i j (lexeme token) h))
found_stands text i (Err (e, j)) h = inr (inr (j, e, inl h))

pub scanned_stands : (text : List ℕ) (i : ℕ) (r : Result ℕ (Error × ℕ)) → ScanGives text i r → HasTokenOrFault text i
scanned_stands text i (Ok j) (s, src, v, is) = inr (inl (j, s, string src v (opens_multi text i), is))
scanned_stands text i (Err (e, j)) h = inr (inr (j, e, inr h))
