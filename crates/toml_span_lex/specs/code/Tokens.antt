-- The results of reading a token that is not a string.
use Rattle.std.specs.Prelude.{ℕ, List, Result, Ok, Err}
use Rattle.toml_span_lex.specs.declared.tokens.Token.{Token}
use Rattle.toml_span_lex.specs.declared.tokens.Error.{Error}
use Rattle.toml_span_lex.specs.Tokens.{lexeme, IsToken, IsUnexpected}

-- The result is the token at i, which is not a string, with the offset after it, or the fault at i, with the offset
-- after the character that the fault reports.
abbrev pub FindsToken : List ℕ → ℕ → Result (Token × ℕ) (Error × ℕ) → Type 0
FindsToken text i (Ok found) = IsToken text i found.1 (lexeme found.0)
FindsToken text i (Err fault) = IsUnexpected text i fault.1 fault.0
