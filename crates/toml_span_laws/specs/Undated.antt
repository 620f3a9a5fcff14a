-- The grammar without dates and times (TOML 1.1 without "Offset Date-Time" to "Local Time"): a number is read even
-- where a date or time would begin, and no value is a date or time.
use Rattle.std.specs.Prelude.{◌≡◌, ℕ, Bool, List}
use Rattle.toml_span_lex.specs.declared.span.Span.{Span}
use Rattle.toml_span_lex.specs.Bytes.{is_keylike}
use Rattle.toml_span_lex.specs.Strings.{IsString}
use Rattle.toml_span_lex.specs.Tokens.{RunAt}
use Rattle.toml_span_tree.specs.Node.{Scalar, text, integer, float, boolean, datetime}
use Rattle.toml_span_read.specs.Data.{ParsedValue, ParsedSection, from_to}
use Rattle.toml_span_read.specs.Grammar.{truth_text, SpellsWith, DocumentWith}
use Rattle.toml_span_read.specs.Numbers.{IsNumber}

-- The text from i to j is this string, number or boolean, with this span. A string has the same span as in
-- `SpellsScalar`.
abbrev pub UndatedScalar : Scalar → Span → List ℕ → ℕ → ℕ → Type 0
UndatedScalar (text value) span t i j = (source : List ℕ) × (multi : Bool) × IsString t i j span source value multi
UndatedScalar (boolean b) span t i j = RunAt is_keylike t i j (truth_text b) × (span ≡ from_to i j)
UndatedScalar (datetime date) span t i j = ⊥
UndatedScalar (integer n) span t i j = IsNumber (integer n) t i j × (span ≡ from_to i j)
UndatedScalar (float x) span t i j = IsNumber (float x) t i j × (span ≡ from_to i j)

-- the values and the documents of this grammar
abbrev pub SpellsUndated : ParsedValue → List ℕ → ℕ → ℕ → ℕ → ℕ → Type 0
SpellsUndated = SpellsWith UndatedScalar

abbrev pub SpellsUndatedDocument : List ParsedSection → List ℕ → ℕ → Type 0
SpellsUndatedDocument = DocumentWith UndatedScalar
