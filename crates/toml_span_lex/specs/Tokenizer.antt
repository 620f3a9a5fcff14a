-- What each method of the tokenizer returns, and up to which offset it reads.
use Rattle.std.specs.Prelude.{◌≡◌, ℕ, ◌≤◌, ◌<◌, ◌+◌, ◌⊎◌, Bool, true, false, List, length, slice_index, Result, Ok, Err}
use Rattle.std.specs.Prelude.{Option, Some, None, codes}
use Rattle.std.specs.Cow.{cow_str_bytes, IsBorrowedStr}
use Rattle.toml_span_lex.specs.Bytes.{hash}
use Rattle.toml_span_lex.specs.Text.{LineEnd, NoLineEnd, CharAt}
use Rattle.toml_span_lex.specs.Strings.{NeedsMemory, Borrows}
use Rattle.toml_span_lex.specs.Tokens.{Lexeme, newline, comment, keylike, string, lexeme, words, IsLexeme, IsUnexpected}
use Rattle.toml_span_lex.specs.Tokens.{IsNoToken}
use Rattle.toml_span_lex.specs.declared.span.Span.{Span}
use Rattle.toml_span_lex.specs.declared.key.Key.{Key}
use Rattle.toml_span_lex.specs.declared.tokens.Token.{Token}
use Rattle.toml_span_lex.specs.declared.tokens.Token.TheVariants as tokens
use Rattle.toml_span_lex.specs.declared.tokens.Error.{Error}
use Rattle.toml_span_lex.specs.declared.tokens.Error.TheVariants as errors
use Rattle.toml_span_lex.specs.declared.stop.Stop.{Stop}
use Rattle.toml_span_lex.specs.declared.stop.Stop.TheVariants as stops

-- a text, and the offset up to which it has been read
pub record Cursor : Type 0 where
  pub text : List ℕ
  pub at : ℕ

-- ---- failures

-- No token was read at i. If an allocation failed, j is i; otherwise j is the offset up to which the text was read to
-- find the fault.
abbrev pub Fails : List ℕ → ℕ → Stop Error → ℕ → Type 0
Fails text i (stops.Memory e) j = (j ≡ i) × NeedsMemory text i
Fails text i (stops.Fault e) j = IsNoToken text i j e

-- The error reports that `expected_name` was expected at i, and `found_name` was found. `found_name` is `eof` at the
-- end of the text.
abbrev pub ReportsExpected : Error → ℕ → List ℕ → List ℕ → Type 0
ReportsExpected (errors.Wanted at expected found) i expected_name found_name =
    (at ≡ i) × (expected.now ≡ expected_name) × (found.now ≡ found_name)
ReportsExpected _ i expected_name found_name = ⊥

-- The token at i, which ends at j, does not satisfy `Allows`. The error reports the name of that token, and that
-- `expected_name` was expected.
abbrev pub IsOther : (Lexeme → Type 0) → List ℕ → List ℕ → ℕ → ℕ → Error → Type 0
IsOther Allows expected_name text i j e =
    (span : Span) × (found : Lexeme) × IsLexeme text i j span found × (Allows found → ⊥)
    × ReportsExpected e i expected_name (words found)

-- The text ends at i, and the error reports that `expected_name` was expected there.
abbrev pub IsEndOf : List ℕ → List ℕ → ℕ → ℕ → Error → Type 0
IsEndOf expected_name text i j e = (i ≡ length text) × (j ≡ i) × ReportsExpected e i expected_name (codes "eof")

-- ---- the next token

-- The result of reading the next token at i, and the offset j at which the tokenizer is then. None is the end of the
-- text.
abbrev pub StepGives : List ℕ → ℕ → Result (Option (Span × Token)) (Stop Error) → ℕ → Type 0
StepGives text i (Ok None) j = (i ≡ length text) × (j ≡ i)
StepGives text i (Ok (Some found)) j = IsLexeme text i j found.0 (lexeme found.1)
StepGives text i (Err stop) j = Fails text i stop j

-- If the token at i is a string, `Borrows` decides whether its value is borrowed.
abbrev pub BorrowsAt : List ℕ → ℕ → Result (Option (Span × Token)) (Stop Error) → ℕ → Type 0
BorrowsAt text i (Ok (Some (span, tokens.String src val multi))) j = Borrows text i j span val
BorrowsAt text i _ j = Unit {0}

-- At i there is a token other than the expected one, or the end of the text.
abbrev pub Lacks : List ℕ → ℕ → Lexeme → Type 0
Lacks text i expected =
    (i ≡ length text)
    ⊎ ((j : ℕ) × (span : Span) × (found : Lexeme) × IsLexeme text i j span found × (found ≡ expected → ⊥))

-- The expected token is read. At another token, at the end of the text, or after an error, nothing changes.
abbrev pub EatsSpanned : Cursor → Result (Option Span) (Stop Error) → Lexeme → Cursor → Type 0
EatsSpanned old (Ok (Some span)) expected new = IsLexeme old.text old.at new.at span expected
EatsSpanned old (Ok None) expected new = (new ≡ old) × Lacks old.text old.at expected
EatsSpanned old (Err stop) expected new = (new ≡ old) × ((j : ℕ) × Fails old.text old.at stop j)

abbrev pub Eats : Cursor → Result Bool (Stop Error) → Lexeme → Cursor → Type 0
Eats old (Ok true) expected new = (span : Span) × IsLexeme old.text old.at new.at span expected
Eats old (Ok false) expected new = (new ≡ old) × Lacks old.text old.at expected
Eats old (Err stop) expected new = (new ≡ old) × ((j : ℕ) × Fails old.text old.at stop j)

-- The call fails with this error, and the tokenizer is then at j: an allocation failed, no token can be read at i, the
-- token at i does not satisfy `Allows`, or the text ends at i.
abbrev pub RefusesOther : (Lexeme → Type 0) → List ℕ → List ℕ → ℕ → Stop Error → ℕ → Type 0
RefusesOther Allows expected_name text i (stops.Memory e) j = Fails text i (stops.Memory e) j
RefusesOther Allows expected_name text i (stops.Fault e) j =
    IsNoToken text i j e ⊎ (IsOther Allows expected_name text i j e ⊎ IsEndOf expected_name text i j e)

abbrev pub ExpectsSpanned : List ℕ → ℕ → Result Span (Stop Error) → Lexeme → ℕ → Type 0
ExpectsSpanned text i (Ok span) expected j = IsLexeme text i j span expected
ExpectsSpanned text i (Err stop) expected j = RefusesOther (λ l. l ≡ expected) (words expected) text i stop j

abbrev pub Expects : List ℕ → ℕ → Result Unit (Stop Error) → Lexeme → ℕ → Type 0
Expects text i (Ok u) expected j = (span : Span) × IsLexeme text i j span expected
Expects text i (Err stop) expected j = RefusesOther (λ l. l ≡ expected) (words expected) text i stop j

-- ---- keys

-- The text from i to j is this key: a bare key, whose name is that text, or a single-line string
-- (`simple-key = quoted-key / unquoted-key`, `quoted-key = basic-string / literal-string`).
abbrev pub IsSimpleKey : List ℕ → ℕ → ℕ → Key → Type 0
IsSimpleKey text i j key =
    (IsBorrowedStr key.name × IsLexeme text i j key.span (keylike (cow_str_bytes key.name)))
    ⊎ ((source : List ℕ) × IsLexeme text i j key.span (string source (cow_str_bytes key.name) false)
    × Borrows text i j key.span key.name)

-- The token can be a key, or is a multi-line string, for which there is another error.
abbrev pub MayBeKey : Lexeme → Type 0
MayBeKey (keylike s) = Unit {0}
MayBeKey (string source value multi) = Unit {0}
MayBeKey _ = ⊥

-- There is a multi-line string where a key is expected. The error has the offset of the string, and that offset plus
-- the length of the string's value.
abbrev pub IsMultilineKey : List ℕ → ℕ → ℕ → Error → Type 0
IsMultilineKey text i j (errors.MultilineStringKey at end) =
    (span : Span) × (source : List ℕ) × (value : List ℕ) × IsLexeme text i j span (string source value true) × (at ≡ i)
    × (end ≡ i + length value)
IsMultilineKey text i j _ = ⊥

-- The result of reading a simple key at i, and the offset j at which the tokenizer is then.
abbrev pub TableKeyGives : List ℕ → ℕ → Result Key (Stop Error) → ℕ → Type 0
TableKeyGives text i (Ok key) j = IsSimpleKey text i j key
TableKeyGives text i (Err (stops.Memory e)) j = Fails text i (stops.Memory e) j
TableKeyGives text i (Err (stops.Fault e)) j =
    (IsNoToken text i j e ⊎ IsMultilineKey text i j e)
    ⊎ (IsOther MayBeKey (codes "a table key") text i j e ⊎ IsEndOf (codes "a table key") text i j e)

-- ---- line ends

-- There is a line end from i to j, or i and j are the end of the text.
abbrev pub EndsLine : List ℕ → ℕ → ℕ → Type 0
EndsLine text i j = LineEnd text i j ⊎ ((i ≡ length text) × (j ≡ i))

abbrev pub ExpectsLineEnd : List ℕ → ℕ → Result Unit (Stop Error) → ℕ → Type 0
ExpectsLineEnd text i (Ok u) j = EndsLine text i j
ExpectsLineEnd text i (Err (stops.Memory e)) j = Fails text i (stops.Memory e) j
ExpectsLineEnd text i (Err (stops.Fault e)) j =
    IsNoToken text i j e ⊎ IsOther (λ l. l ≡ newline) (codes "newline") text i j e

-- `Ok true`: a comment (`comment-start-symbol *non-eol`) begins at i, and j is after it and after its line end, if any.
-- `Ok false`: no comment begins at i. `Err`: after a comment at i, there is a character that may not follow it.
abbrev pub EatsComment : List ℕ → ℕ → Result Bool Error → ℕ → Type 0
EatsComment text i (Ok true) j =
    (k : ℕ) × (span : Span) × (s : List ℕ) × IsLexeme text i k span (comment s) × EndsLine text k j
EatsComment text i (Ok false) j = (slice_index text i ≡ hash → ⊥) × (j ≡ i)
EatsComment text i (Err e) j =
    (k : ℕ) × (span : Span) × (s : List ℕ) × IsLexeme text i k span (comment s) × IsUnexpected text k j e

-- j is the offset after the first line end at or after i or, without such a line end, the end of the text.
abbrev pub SkipsLine : List ℕ → ℕ → ℕ → Type 0
SkipsLine text i j = (k : ℕ) × (i ≤ k) × ((n : ℕ) → i ≤ n → n < k → NoLineEnd text n) × EndsLine text k j

-- ---- the next character

abbrev pub OneGives : List ℕ → ℕ → Option (ℕ × ℕ) → ℕ → Type 0
OneGives text i None j = (i ≡ length text) × (j ≡ i)
OneGives text i (Some found) j = (found.0 ≡ i) × CharAt text i found.1 j
