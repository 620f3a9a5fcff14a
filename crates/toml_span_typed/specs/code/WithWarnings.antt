-- What the functions do that read with warnings, and add values, errors and warnings to lists.
use Rattle.std.specs.Prelude.{◌≡◌, ◌++◌, [], ◌∷◌, List, Option, Some, None, Result, Ok, Err}
use Rattle.toml_span_tree.specs.Error.{ErrorContent}
use Rattle.toml_span_tree.specs.Node.{Node}
use Rattle.toml_span_tree.specs.Errors.{Errors, all}
use Rattle.toml_span_typed.specs.Reads.{elements, errors}
use Rattle.toml_span_typed.specs.WithWarnings.{EachWithWarnings}

-- A value was read: the read value is returned, or the errors of the read were added to `faults`. The warnings of the
-- read were appended.
abbrev pub ReadsOrKeepsWithWarnings : {T : Type 0}
    → (Node → Result T Errors → List ErrorContent → List ErrorContent → Type 0) → Node → List ErrorContent
    → Option T → List ErrorContent → List ErrorContent → List ErrorContent → Type 0
ReadsOrKeepsWithWarnings reads value faults (Some x) kept warnings more =
    reads value (Ok x) warnings more × (kept ≡ faults)
ReadsOrKeepsWithWarnings reads value faults None kept warnings more =
    (refused : Errors) × reads value (Err refused) warnings more × (kept ≡ faults ++ all refused)

-- The values were read: xs are the read values, and `faults` are the errors. The warnings of the reads were appended.
abbrev pub AreReadWithWarnings : {T : Type 0}
    → (Node → Result T Errors → List ErrorContent → List ErrorContent → Type 0) → List Node → List T
    → List ErrorContent → List ErrorContent → List ErrorContent → Type 0
AreReadWithWarnings reads values xs faults warnings more =
    (answers : List (Result _ Errors)) × EachWithWarnings reads values answers warnings more
    × (elements answers ≡ xs) × (errors answers ≡ faults)

-- One more value was read: the read value was added to xs, or the errors of the read to `faults`. The warnings of the
-- read were appended.
abbrev pub AddsWithWarnings : {T : Type 0}
    → (Node → Result T Errors → List ErrorContent → List ErrorContent → Type 0) → Node → List T → List ErrorContent
    → List T → List ErrorContent → List ErrorContent → List ErrorContent → Type 0
AddsWithWarnings reads value xs faults ys refused warnings more =
    (answer : Result _ Errors) × reads value answer warnings more
    × (ys ≡ xs ++ elements (answer ∷ [])) × (refused ≡ faults ++ errors (answer ∷ []))
