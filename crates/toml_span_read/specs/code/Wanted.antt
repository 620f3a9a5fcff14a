-- What the functions that look at unexpected tokens return.
use Rattle.std.specs.Prelude.{◌≡◌, ℕ, ◌⊎◌, List, length, Result, Ok, Err}
use Rattle.toml_span_lex.specs.declared.span.Span.{Span}
use Rattle.toml_span_lex.specs.declared.stop.Stop.{Stop}
use Rattle.toml_span_lex.specs.declared.stop.Stop.TheVariants as stops
use Rattle.toml_span_lex.specs.Tokens.{Lexeme, IsLexeme}
use Rattle.toml_span_read.specs.declared.fault.FoundToken.{FoundToken}
use Rattle.toml_span_read.specs.declared.fault.FoundToken.TheVariants as found_tokens
use Rattle.toml_span_read.specs.declared.fault.Fault.{Fault}
use Rattle.toml_span_read.specs.Faults.{found_of}
use Rattle.toml_span_read.specs.Read.{NextToken, IsNextToken, wanted, string_value}
use Rattle.toml_span_read.specs.declared.fault.ExpectedToken.{ExpectedToken}
use Rattle.toml_span_read.specs.code.Faults.{IsTokenFault}

-- `found` says what is at i: a token, which ends at j; or the end of the text, and j is i.
abbrev pub IsFound : List ℕ → ℕ → ℕ → FoundToken → Type 0
IsFound text i j found =
    ((i ≡ length text) × (j ≡ i) × (found ≡ found_tokens.EndOfText))
    ⊎ ((span : Span) × (lexeme : Lexeme) × IsLexeme text i j span lexeme × (found ≡ found_of lexeme))

abbrev pub FoundGives : List ℕ → ℕ → Result (FoundToken × ℕ) (Stop Fault) → Type 0
FoundGives text i (Ok (found, j)) = IsFound text i j found
FoundGives text i (Err (stops.Memory e)) = Unit {0}
FoundGives text i (Err (stops.Fault fault)) = IsTokenFault text i fault

-- The result is the fault for something other than the expected token at i, or a failed allocation.
abbrev pub WantedGives : List ℕ → ℕ → ExpectedToken → Stop Fault → Type 0
WantedGives text i expected (stops.Memory e) = Unit {0}
WantedGives text i expected (stops.Fault fault) =
    (next_token : NextToken) × IsNextToken text i next_token × (fault ≡ wanted expected i next_token)

abbrev pub NoValueGives : List ℕ → ℕ → Stop Fault → Type 0
NoValueGives text i (stops.Memory e) = Unit {0}
NoValueGives text i (stops.Fault fault) = string_value text i (Err fault)
