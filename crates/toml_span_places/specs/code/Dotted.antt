-- What the functions that read paths return, and what `dotted` has read after each step.
use Rattle.std.specs.Prelude.{◌≡◌, ℕ, Bool, List, ◌++◌, Result, Ok, Err}
use Rattle.std.specs.Cow.{cow_str_bytes}
use Rattle.std.specs.declared.borrow.CowStr.{CowStr}
use Rattle.toml_span_lex.specs.Strings.{IsNoString, IsString}
use Rattle.toml_span_lex.specs.declared.span.Span.{Span}
use Rattle.toml_span_lex.specs.declared.stop.Stop.{Stop}
use Rattle.toml_span_lex.specs.declared.stop.Stop.TheVariants as stops
use Rattle.toml_span_lex.specs.declared.tokens.Error.{Error}
use Rattle.toml_span_read.specs.code.Gaps.{Further}
use Rattle.toml_span_places.specs.Dotted.{IsDotted, IsKey, IsPosition, IsStep, NoKey, NoPosition, NoStep, Outcome}
use Rattle.toml_span_places.specs.Dotted.{Steps, string_error}
use Rattle.toml_span_places.specs.declared.dotted.PathError.{PathError}

abbrev pub StringGives : {Z : Type 0} → List ℕ → ℕ → Result (CowStr Z × Bool × ℕ) (Stop PathError) → Type 0
StringGives text i (Ok (val, multi, j)) =
    ((span : Span) × (source : List ℕ) × IsString text i j span source (cow_str_bytes val) multi) × Further text i j
StringGives text i (Err (stops.Memory e)) = Unit {0}
StringGives text i (Err (stops.Fault e)) =
    (j : ℕ) × (fault : Error) × IsNoString text i j fault × (e ≡ string_error i j fault)

abbrev pub KeyGives : {Z : Type 0} → List ℕ → ℕ → Result (CowStr Z × ℕ) (Stop PathError) → Type 0
KeyGives text i (Ok (name, j)) = IsKey text i j (cow_str_bytes name) × Further text i j
KeyGives text i (Err (stops.Memory e)) = Unit {0}
KeyGives text i (Err (stops.Fault e)) = NoKey text i e

abbrev pub PositionGives : {Z : Type 0} → List ℕ → ℕ → Result (CowStr Z × ℕ) (Stop PathError) → Type 0
PositionGives text i (Ok (digits, j)) = IsPosition text i j (cow_str_bytes digits) × Further text i j
PositionGives text i (Err (stops.Memory e)) = Unit {0}
PositionGives text i (Err (stops.Fault e)) = NoPosition text i e

abbrev pub StepGives : {Z : Type 0} → List ℕ → ℕ → Result (CowStr Z × ℕ) (Stop PathError) → Type 0
StepGives text i (Ok (segment, j)) = IsStep text i j (cow_str_bytes segment) × Further text i j
StepGives text i (Err (stops.Memory e)) = Unit {0}
StepGives text i (Err (stops.Fault e)) = NoStep text i e

-- the outcome with `names` put before its segments, if it has segments
abbrev pub prefixed : List (List ℕ) → Outcome → Outcome
prefixed names (Ok segments) = Ok (names ++ segments)
prefixed names (Err e) = Err e

-- Whatever the outcome of the steps from i to the end of the text is: with `names` put before its segments, it is the
-- outcome of the whole text as a dotted key with positions.
abbrev pub AfterSegments : List ℕ → List (List ℕ) → ℕ → Type 0
AfterSegments text names i = (rest : Outcome) → Steps text i rest → IsDotted text (prefixed names rest)
