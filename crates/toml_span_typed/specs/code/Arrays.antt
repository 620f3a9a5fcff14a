-- Reads that add read values and errors to lists.
use Rattle.std.specs.Prelude.{◌≡◌, ⊤, List, [], ◌∷◌, ◌++◌, Option, Some, None, Result, Ok, Err}
use Rattle.toml_span_lex.specs.declared.stop.Stop.{Stop}
use Rattle.toml_span_lex.specs.declared.stop.Stop.TheVariants as stop
use Rattle.toml_span_tree.specs.Node.{Node}
use Rattle.toml_span_tree.specs.Error.{ErrorContent}
use Rattle.toml_span_tree.specs.Errors.{Errors, all}
use Rattle.toml_span_typed.specs.Reads.{EachReads, elements, errors}
use Rattle.toml_span_typed.specs.Tuples.{IsReadAs}

-- P holds for the result, unless an allocation failed.
abbrev pub Answered : {T : Type 0} → Result T (Stop Errors) → (Result T Errors → Type 0) → Type 0
Answered (Ok x) P = P (Ok x)
Answered (Err (stop.Fault faults)) P = P (Err faults)
Answered (Err (stop.Memory error)) P = ⊤

-- The values were read: xs are the read values, and `faults` are the errors.
abbrev pub AreRead : {T : Type 0} → (Node → Result T Errors → Node → Type 0) → List Node → List T → List ErrorContent
    → Type 0
AreRead reads values xs faults =
    (answers : List (Result _ Errors)) × EachReads reads values answers × (elements answers ≡ xs)
    × (errors answers ≡ faults)

-- One more value was read: the read value was added to xs, or the errors of the read to `faults`.
abbrev pub AddsRead : {T : Type 0} → (Node → Result T Errors → Node → Type 0) → Node → List T → List ErrorContent
    → List T
    → List ErrorContent → Type 0
AddsRead reads value xs faults ys more =
    (answer : Result _ Errors) × ((after : Node) × reads value answer after)
    × (ys ≡ xs ++ elements (answer ∷ [])) × (more ≡ faults ++ errors (answer ∷ []))

-- A value was read: the read value is returned, or the errors of the read were added to `faults`.
abbrev pub ReadsOrKeeps : {T : Type 0} → (Node → Result T Errors → Node → Type 0) → Node → List ErrorContent → Option T
    → List ErrorContent → Type 0
ReadsOrKeeps reads value faults (Some x) more = IsReadAs reads value (Ok x) × (more ≡ faults)
ReadsOrKeeps reads value faults None more =
    (refused : Errors) × IsReadAs reads value (Err refused) × (more ≡ faults ++ all refused)
