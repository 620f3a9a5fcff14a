-- The results of the functions that read an escape.
use Rattle.std.specs.Prelude.{ℕ, List, Result, Ok, Err}
use Rattle.toml_span_lex.specs.declared.tokens.Error.{Error}
use Rattle.toml_span_lex.specs.Escapes.{IsHexEscape, IsHexFault, IsEscape, IsEscapeFault}

abbrev pub HexGives : ℕ → List ℕ → ℕ → ℕ → Result (ℕ × ℕ) (Error × ℕ) → Type 0
HexGives start text i n (Ok found) = IsHexEscape text i n found.0 found.1
HexGives start text i n (Err fault) = IsHexFault start text i n fault.1 fault.0

abbrev pub EscapeGives : ℕ → List ℕ → ℕ → Result (ℕ × ℕ) (Error × ℕ) → Type 0
EscapeGives start text i (Ok found) = IsEscape text i found.0 found.1
EscapeGives start text i (Err fault) = IsEscapeFault start text i fault.1 fault.0
