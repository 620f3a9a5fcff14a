-- The results of the functions that read a string.
use Rattle.std.specs.Prelude.{◌≡◌, ℕ, ◌+◌, ◌<◌, ◌≤◌, Bool, List, length, slice_range, string_bytes, Result, Ok, Err}
use Rattle.std.specs.Prelude.{Option, Some, None}
use Rattle.std.specs.Str.{IsCharBoundary}
use Rattle.std.specs.declared.string.String.{String}
use Rattle.std.specs.Cow.{cow_str_bytes}
use Rattle.toml_span_lex.specs.declared.span.Span.{Span}
use Rattle.toml_span_lex.specs.declared.stop.Stop.{Stop}
use Rattle.toml_span_lex.specs.declared.stop.Stop.TheVariants as stops
use Rattle.toml_span_lex.specs.declared.tokens.Error.{Error}
use Rattle.toml_span_lex.specs.declared.tokens.Token.{Token}
use Rattle.toml_span_lex.specs.declared.tokens.Token.TheVariants as tokens
use Rattle.toml_span_lex.specs.Strings.{IsContent, IsContentCutOff, HasChange, NeedsCopy, opens_multi, IsString}
use Rattle.toml_span_lex.specs.Strings.{IsNoString, NeedsMemory, Borrows, BorrowsWhereSame}

-- `value` is the value of the content from `from` to `at`. As long as it equals the text, it is not copied (None).
-- Otherwise it is an owned string, which is shorter than the text.
abbrev pub Kept : {Z : Type 0} → ℕ → List ℕ → ℕ → ℕ → List ℕ → Option (String Z) → Type 0
Kept q text from at value None = value ≡ slice_range text from at
Kept q text from at value (Some s) = (string_bytes s ≡ value) × (length value + from < at) × HasChange q text from at

abbrev pub ContentGives : {Z : Type 0} → ℕ → Bool → ℕ → List ℕ → ℕ
    → Result (Option (String Z) × ℕ × ℕ) (Stop (Error × ℕ)) → Type 0
ContentGives q multi start text from (Ok (kept, to, end)) =
    (value : List ℕ) × IsContent q multi text from value to end × Kept q text from to value kept
ContentGives q multi start text from (Err (stops.Memory e)) = NeedsCopy q multi text from
ContentGives q multi start text from (Err (stops.Fault (e, j))) = IsContentCutOff q multi start text from j e

abbrev pub StringBorrows : List ℕ → Result (Span × Token × ℕ) (Stop (Error × ℕ)) → Type 0
StringBorrows text (Ok (span, tokens.String src val multi, j)) = BorrowsWhereSame text span val
StringBorrows text _ = Unit {0}

-- The result of reading the string at i is this string, fault or failed allocation.
abbrev pub StringGives : List ℕ → ℕ → Result (Span × Token × ℕ) (Stop (Error × ℕ)) → Type 0
StringGives text i (Ok (span, tokens.String src val multi, j)) =
    IsString text i j span src.now (cow_str_bytes val) multi × Borrows text i j span val
StringGives text i (Ok (span, _, j)) = ⊥
StringGives text i (Err (stops.Memory e)) = NeedsMemory text i
StringGives text i (Err (stops.Fault (e, j))) = IsNoString text i j e

-- The result of finding the end of the string at i is this offset or fault.
abbrev pub ScanGives : List ℕ → ℕ → Result ℕ (Error × ℕ) → Type 0
ScanGives text i (Ok j) =
    (span : Span) × (source : List ℕ) × (value : List ℕ) × IsString text i j span source value (opens_multi text i)
ScanGives text i (Err (e, j)) = IsNoString text i j e

-- The content ends at `to`, and the string at `end`: two character boundaries inside the text.
pub record Ends (text : List ℕ) (from to end : ℕ) : Type 0 where
  pub forward : from ≤ to
  pub on : to < end
  pub within : end ≤ length text
  pub to_boundary : IsCharBoundary text to
  pub end_boundary : IsCharBoundary text end

abbrev pub EndsWell : {Z : Type 0} → List ℕ → ℕ → Result (Option (String Z) × ℕ × ℕ) (Stop (Error × ℕ)) → Type 0
EndsWell text from (Ok (kept, to, end)) = Ends text from to end
EndsWell text from (Err (stops.Memory e)) = Unit {0}
EndsWell text from (Err (stops.Fault (e, j))) = IsCharBoundary text j

abbrev pub StringEnds : List ℕ → Result (Span × Token × ℕ) (Stop (Error × ℕ)) → Type 0
StringEnds text (Ok (span, token, j)) = IsCharBoundary text j
StringEnds text (Err (stops.Memory e)) = Unit {0}
StringEnds text (Err (stops.Fault (e, j))) = IsCharBoundary text j
