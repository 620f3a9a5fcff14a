-- The number of keys in a path, where strings are in a text, and values that the text at their spans spells again.
use Rattle.std.specs.Prelude.{◌≡◌, ⊤, ℕ, suc, ◌+◌, Bool, List, [], ◌∷◌}
use Rattle.toml_span_lex.specs.declared.span.Span.{Span}
use Rattle.toml_span_lex.specs.Strings.{IsString, IsEmptyOnOneLine}
use Rattle.toml_span_tree.specs.Path.{Path, key, position}
use Rattle.toml_span_read.specs.Data.{parsed_span}
use Rattle.toml_span_read.specs.Data as read
use Rattle.toml_span_laws.specs.Places.{CutsContent}
use Rattle.toml_span_laws.specs.Again.{ReadsAgain, ScalarReadsAgain}
use Rattle.toml_span.specs.declared.claims.ClaimKind.TheVariants.{Assigned}
use Rattle.toml_span.specs.Claims.{Claims, no_claims, claimed, scope, followed, value_claims, value_shape}

-- the number of keys in a path
abbrev pub keys_in : Path → ℕ
keys_in [] = 0
keys_in (key name ∷ p) = suc (keys_in p)
keys_in (position i ∷ p) = keys_in p

-- The text has a string with this value, from i to j. The span is that of the string's content (`CutsContent`) or, for
-- an empty single-line string, the first quote.
pub record ShowsString (text value : List ℕ) (span : Span) : Type 0 where
  pub i : ℕ
  pub j : ℕ
  pub source : List ℕ
  pub multi : Bool
  pub spelled : IsString text i j span source value multi
  pub content : (IsEmptyOnOneLine i j → ⊥) → CutsContent text i j span value multi
  pub opening : IsEmptyOnOneLine i j → (value ≡ []) × (span ≡ record { start = i; end = i + 1 })

-- The text at the span of the value spells it again (`ReadsAgain`). For a string, nothing is claimed.
abbrev pub ValueReadsAgain : List ℕ → ℕ → read.ParsedValue → Type 0
ValueReadsAgain text limit (read.parsed (read.scalar s) span) = ScalarReadsAgain text limit s span
ValueReadsAgain text limit (read.parsed (read.array items) span) =
    ReadsAgain text limit (read.parsed (read.array items) span)
ValueReadsAgain text limit (read.parsed (read.inline pairs) span) =
    ReadsAgain text limit (read.parsed (read.inline pairs) span)

-- For each claim that assigns a value: the text at the span of the value spells it again (`ValueReadsAgain`), and the
-- claims that follow directly are those inside the value.
abbrev pub AssignsAgain : List ℕ → ℕ → Claims → Type 0
AssignsAgain text limit no_claims = ⊤
AssignsAgain text limit (claimed c cs) =
    (c.info.kind ≡ Assigned → (v : read.ParsedValue) × (rest : Claims) × ValueReadsAgain text limit v
    × (c.place.shape ≡ value_shape v)
    × (c.place.span ≡ parsed_span v) × (cs ≡ followed (value_claims v c.path) rest)) × AssignsAgain text limit cs
AssignsAgain text limit (scope inner cs) = AssignsAgain text limit inner × AssignsAgain text limit cs
