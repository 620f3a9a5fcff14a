-- The fault that another token than the expected one is at an offset, and its span.
use Rattle.toml_span_lex.proofs.Common.{common_steps, nat_tests, ◌≡◌, ℕ, false, List, length, get_or, arith, inl, inr, ap, sym, Err}
use Rattle.toml_span_lex.specs.declared.stop.Stop.{Stop}
use Rattle.toml_span_lex.specs.declared.stop.Stop.TheVariants as stops
use Rattle.toml_span_lex.specs.declared.span.Span.{Span}
use Rattle.toml_span_lex.specs.Tokens.{Lexeme, string, IsToken, IsLexeme}
use Rattle.toml_span_read.specs.declared.fault.FoundToken.{FoundToken}
use Rattle.toml_span_read.specs.declared.fault.ExpectedToken.{ExpectedToken}
use Rattle.toml_span_read.specs.declared.fault.ExpectedToken.TheVariants as expected_tokens
use Rattle.toml_span_read.specs.declared.fault.Fault.{Fault}
use Rattle.toml_span_read.specs.declared.fault.FaultKind.TheVariants as kinds
use Rattle.toml_span_read.specs.Faults.{found_of, wanted_fault}
use Rattle.toml_span_read.specs.Keys.{opens_string}
use Rattle.toml_span_read.specs.Read as read
use Rattle.toml_span_read.specs.Read.{NextToken, IsNextToken, token, text_end, no_token, string_of}
use Rattle.toml_span_read.specs.code.Wanted.{IsFound}

-- P holds for a fault; nothing is stated about a failed allocation
abbrev pub OfFault : (Fault → Type 0) → Stop Fault → Type 0
OfFault P (stops.Memory e) = Unit {0}
OfFault P (stops.Fault e) = P e

pub so_told : (P Q : Fault → Type 0) (stop : Stop Fault) → OfFault P stop → ((e : Fault) → P e → Q e) → OfFault Q stop
so_told P Q stop h go = grind (arith)

-- ---- what is at the offset

pub found_stands : (text : List ℕ) (i j : ℕ) (expected : ExpectedToken) (found : FoundToken) → IsFound text i j found → (next_token : NextToken) × IsNextToken text i next_token × (wanted_fault expected found i ≡ read.wanted expected i next_token)
found_stands text i j expected found (inl (end, at, is)) = (text_end, end, ap (λ x. wanted_fault expected x i) is)
found_stands text i j expected found (inr (s, l, stands, is)) = (token s l j, stands, ap (λ x. wanted_fault expected x i) is)

token_of : (text : List ℕ) (i j : ℕ) (found : FoundToken) (s : Span) (l : Lexeme) → opens_string (get_or text i 0) ≡ false → IsLexeme text i j s l → found ≡ found_of l
    → read.string_value text i (Err (record { kind = kinds.Wanted expected_tokens.Value found; span = record { start = i; end = j } }))
token_of text i j found s l o h is = (token s l j, h, rw is (sym (grind (arith, nat_tests, common_steps))))

-- `no_value` first tests whether the text ends
pub other_token : (text : List ℕ) (i j : ℕ) (found : FoundToken) → opens_string (get_or text i 0) ≡ false → (i ≡ length text → ⊥) → IsFound text i j found → read.string_value text i (Err (record { kind = kinds.Wanted expected_tokens.Value found; span = record { start = i; end = j } }))
other_token text i j found o n (inl h) = absurd (n h.0)
other_token text i j found o n (inr (s, l, h, is)) = token_of text i j found s l o h is

-- a token that is not a string has a span
pub token_stands : (text : List ℕ) (i j : ℕ) (l : Lexeme) → IsToken text i j l → (s : Span) × IsLexeme text i j s l
token_stands text i j (string src v m) h = absurd h
token_stands text i j l h = (record { start = i; end = j }, grind (arith))

pub token_found : (text : List ℕ) (i j : ℕ) (l : Lexeme) (found : FoundToken) → IsToken text i j l → found ≡ found_of l → IsFound text i j found
token_found text i j l found h e = let s = token_stands text i j l h in inr (s.0, l, s.1, e)
