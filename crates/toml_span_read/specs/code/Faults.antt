-- What functions that may fail return, and where their faults are.
use Rattle.std.specs.Prelude.{◌≡◌, ℕ, ◌+◌, ◌<◌, List, Result, Ok, Err}
use Rattle.toml_span_lex.specs.declared.stop.Stop.{Stop}
use Rattle.toml_span_lex.specs.declared.stop.Stop.TheVariants as stops
use Rattle.toml_span_lex.specs.declared.tokens.Error.{Error}
use Rattle.toml_span_lex.specs.declared.tokens.Error.TheVariants as errors
use Rattle.toml_span_lex.specs.Tokens.{IsNoToken}
use Rattle.toml_span_read.specs.declared.fault.Fault.{Fault}
use Rattle.toml_span_read.specs.Faults.{StartsInside, token_fault}
use Rattle.toml_span_read.specs.Read.{Reading}
use Rattle.toml_span_read.specs.code.Gaps.{Further}

-- If the function returns a value, m reads that value, converted by `view`. If it returns a fault, m has that fault.
abbrev pub MatchesReading : {A B : Type 0} → (A → B) → Reading B → Result A (Stop Fault) → Type 0
MatchesReading view m (Ok a) = m (Ok (view a))
MatchesReading view m (Err (stops.Memory e)) = Unit {0}
MatchesReading view m (Err (stops.Fault e)) = m (Err e)

abbrev pub IsPlacedStop : List ℕ → Stop Fault → Type 0
IsPlacedStop text (stops.Memory e) = Unit {0}
IsPlacedStop text (stops.Fault fault) = StartsInside text fault.span

-- What was read ends after i, or the fault starts inside the text or at its end.
abbrev pub Advances : {A : Type 0} → List ℕ → ℕ → Result (A × ℕ) (Stop Fault) → Type 0
Advances text i (Ok found) = Further text i found.1
Advances text i (Err stop) = IsPlacedStop text stop

abbrev pub IsPlacedEnd : {A : Type 0} → List ℕ → Result A (Stop Fault) → Type 0
IsPlacedEnd text (Ok found) = Unit {0}
IsPlacedEnd text (Err stop) = IsPlacedStop text stop

-- The tokenizer has this fault at i.
abbrev pub IsTokenFault : List ℕ → ℕ → Fault → Type 0
IsTokenFault text i fault = (j : ℕ) × (e : Error) × IsNoToken text i j e × (fault ≡ token_fault e)

-- The offsets in a tokenizer's error are below n, except the second one of `MultilineStringKey`.
abbrev pub Bounded : ℕ → Error → Type 0
Bounded n (errors.InvalidCharInString at c) = at < n
Bounded n (errors.InvalidEscape at c) = at < n
Bounded n (errors.InvalidHexEscape at c) = at < n
Bounded n (errors.InvalidEscapeValue at len value) = at + len < n
Bounded n (errors.NewlineInString at) = at < n
Bounded n (errors.Unexpected at c) = at < n
Bounded n (errors.UnterminatedString at) = at < n
Bounded n (errors.MultilineStringKey start end) = start < n
Bounded n (errors.Wanted at expected found) = at < n
