-- A read of a table in progress.
use Rattle.std.specs.Prelude.{◌≡◌, ℕ, List, [], ◌∷◌, ◌++◌, Result}
use Rattle.toml_span_tree.specs.Error.{ErrorContent}
use Rattle.toml_span_tree.specs.Node.{Node}
use Rattle.toml_span_tree.specs.Errors.{Errors}
use Rattle.toml_span_typed.specs.Reads.{errors}
use Rattle.toml_span_typed.specs.Maps.{holding_read}

-- One more value was read: the read value was added to `entries` under the name, or the errors of the read to `faults`.
abbrev pub AddsEntry : {T : Type 0} → (Node → Result T Errors → Node → Type 0) → List ℕ → Node
    → List (List ℕ × T) → List ErrorContent → List (List ℕ × T) → List ErrorContent → Type 0
AddsEntry reads name value entries faults more refused =
    (answer : Result _ Errors) × ((after : Node) × reads value answer after)
    × (more ≡ holding_read entries (name ∷ []) (answer ∷ [])) × (refused ≡ faults ++ errors (answer ∷ []))
