-- How `Spanned` asks a format for the span of a value: by reading a variant with a reserved name.
use Rattle.std.specs.Prelude.{◌≡◌, ℕ, List, [], ◌∷◌, Bool, false, codes}
use Rattle.serde.specs.Steps.{Picks}
use Rattle.serde.specs.declared.deserializer.Deserializer.{Deserializer}
use Rattle.serde.specs.declared.name.Name.{Name}
use Rattle.toml_span_lex.specs.declared.span.Span.{Span}

-- a list of one name, the reserved name that asks for the start of a span
abbrev pub AsksStart : List Name → Type 0
AsksStart names = (n : Name) × (names ≡ n ∷ []) × (n.name.now ≡ codes "$toml_span::start")

-- a list of one name, the reserved name that asks for the end of a span
abbrev pub AsksEnd : List Name → Type 0
AsksEnd names = (n : Name) × (names ≡ n ∷ []) × (n.name.now ≡ codes "$toml_span::end")

-- Asked for the start of the next value's span, the format returns `span.start` as the index of a variant. Asked for
-- the end afterwards, it returns `span.end`.
abbrev pub HasSpan : {F E M : Type 0} → (F → List ℕ → Bool → List Name → ℕ → F → Type 0)
    → Deserializer F E M → Span → Type 0
HasSpan {F} {E} {M} picks from span =
    (starts ends : List Name) × (asked last : Deserializer F E M) × AsksStart starts × AsksEnd ends
    × Picks picks from false starts span.start asked × Picks picks asked false ends span.end last
