-- Positions and ranges in the parameters of requests (LSP 3.17: Position, Range).
use Rattle.std.specs.Prelude.{◌≡◌, ℕ, List, [], ◌∷◌, Option, Some, codes, max, min, option_and_then}
use Rattle.std.specs.Str.Parse.{IsNumeral, digits_value, without_leading_plus}
use Rattle.json.specs.Find.{get}
use Rattle.json.specs.Json.{Json}
use Rattle.json.specs.Json as json
use Rattle.toml_span_editor.specs.Positions.{offset_of}
use Rattle.toml_span_editor.specs.declared.positions.Encoding.{Encoding}
use Rattle.toml_span_editor.specs.declared.positions.Position.{Position}
use Rattle.toml_span_editor.specs.declared.positions.Range.{Range}
use Rattle.toml_span_lex.specs.declared.span.Span.{Span}

-- the member at a path of names in nested objects
abbrev pub member_at : List (List ℕ) → Json → Option Json
member_at [] value = Some value
member_at (name ∷ names) value = option_and_then (member_at names) (get name value)

-- The value is the integer `n`.
abbrev pub IsCount : Json → ℕ → Type 0
IsCount (json.number s) n = IsNumeral 10 (without_leading_plus s) × (n ≡ digits_value 10 (without_leading_plus s))
IsCount _ n = ⊥

-- The object has a member `name`, whose value is the integer `n`.
abbrev pub HasCount : List ℕ → Json → ℕ → Type 0
HasCount name value n = (count : Json) × (get name value ≡ Some count) × IsCount count n

abbrev pub IsPosition : Json → Position → Type 0
IsPosition value p = HasCount (codes "line") value p.line × HasCount (codes "character") value p.character

-- The object has a member `name`, which is this position.
abbrev pub HasPosition : List ℕ → Json → Position → Type 0
HasPosition name value p = (position : Json) × (get name value ≡ Some position) × IsPosition position p

abbrev pub IsRange : Json → Range → Type 0
IsRange value range = HasPosition (codes "start") value range.start × HasPosition (codes "end") value range.end

-- The parameters have a `position`, and it is at the offset `at` of `text`.
abbrev pub IsAsked : Json → Encoding → List ℕ → ℕ → Type 0
IsAsked params encoding text at =
    (p : Position) × HasPosition (codes "position") params p × (at ≡ offset_of encoding text p)

-- the bytes of a range, which may begin after its end
abbrev pub span_of : Encoding → List ℕ → Range → Span
span_of encoding text range =
    let start = offset_of encoding text range.start in
    let end = offset_of encoding text range.end in
    record { start = min start end; end = max start end }

-- The parameters have a `range`, and it has the bytes of `span` in `text`.
abbrev pub IsAskedRange : Json → Encoding → List ℕ → Span → Type 0
IsAskedRange params encoding text span =
    (value : Json) × (range : Range) × (get (codes "range") params ≡ Some value) × IsRange value range
    × (span ≡ span_of encoding text range)
