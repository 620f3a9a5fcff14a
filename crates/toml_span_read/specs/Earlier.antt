-- Dotted keys that go through values of earlier assignments.
use Rattle.std.specs.Prelude.{ℕ, List, [], ◌∷◌, map, find, fold, Option, None, option_map}
use Rattle.std.specs.Cmp.Lexicographic.{pointwise}
use Rattle.std.specs.Option.{option_or}
use Rattle.std.specs.Str.{bytes_eq}
use Rattle.toml_span_lex.specs.declared.span.Span.{Span}
use Rattle.toml_span_read.specs.Data.{SimpleKey, ParsedAssignment, parsed_span, from_to}
use Rattle.toml_span_read.specs.declared.fault.Fault.{Fault}
use Rattle.toml_span_read.specs.declared.fault.FaultKind.TheVariants as kinds

-- the names of a key's parts
abbrev pub part_names : List SimpleKey → List (List ℕ)
part_names parts = map (λ p. p.name) parts

-- the span of the last part of a key, which has at least one part
abbrev pub last_span : List SimpleKey → Span
last_span parts = fold (λ span p. p.span) (from_to 0 0) parts

-- the span of the last part of the first key that has exactly these names
unfoldable pub value_at : List ParsedAssignment → List (List ℕ) → Option Span
value_at es names =
    option_map (λ e. last_span e.parts) (find (λ e. pointwise bytes_eq (part_names e.parts) names) es)

-- Among the parts of a key before its last part, finds the first whose path has a value. The path of a part consists of
-- the names of the parts up to this part. Returns the offset at which the part starts, and the span that `value` has
-- for its path.
unfoldable pub crossed : (List (List ℕ) → Option Span) → List SimpleKey → Option (ℕ × Span)
crossed value (p ∷ q ∷ rest) =
    option_or (option_map (λ first. (p.span.start, first)) (value (p.name ∷ [])))
    (crossed (λ names. value (p.name ∷ names)) (q ∷ rest))
crossed value parts = None

-- the fault of the assignment `next` if its key goes through the value of an earlier one, otherwise None
unfoldable pub crossing : List ParsedAssignment → ParsedAssignment → Option Fault
crossing earlier next =
    option_map (λ (start, first). record {
      kind = kinds.DottedKeyInvalidType first;
      span = from_to start (parsed_span next.value).end;
    }) (crossed (value_at earlier) next.parts)
