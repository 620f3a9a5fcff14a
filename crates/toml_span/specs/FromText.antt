-- What reading a document as a type returns.
use Rattle.std.specs.Prelude.{◌≡◌, ⊤, ℕ, ◌⊎◌, List, Result, Err}
use Rattle.toml_span_lex.specs.declared.stop.Stop.{Stop}
use Rattle.toml_span_lex.specs.declared.stop.Stop.TheVariants as stops
use Rattle.toml_span_tree.specs.declared.value.Value.{Value}
use Rattle.toml_span_tree.specs.Node.{Node}
use Rattle.toml_span_tree.specs.Value.{view}
use Rattle.toml_span_tree.specs.declared.error.Error.{Error}
use Rattle.toml_span_tree.specs.Error.{ErrorContent, content_of}
use Rattle.toml_span_tree.specs.Errors.{Errors, one}
use Rattle.toml_span.specs.Parsing.{IsTree, IsRefusal}
use Rattle.toml_span_read.specs.Data.{depth_limit}

-- The text is parsed into a tree, and reading the tree as the type can have this result. `reads` describes such reads,
-- and `left` is the tree after the read.
abbrev pub IsReadAs : {T : Type 0} → (Node → Result T Errors → Node → Type 0) → List ℕ → Result T Errors → Type 0
IsReadAs reads text answer =
    (root : Value) × (left : Node) × IsTree text depth_limit root × reads (view root) answer left

-- Either the text can't be parsed, and the only error reports why, or it is parsed into a tree, and reading the tree as
-- the type can fail with these errors. A failed allocation is possible for any text.
abbrev pub NotRead : {T : Type 0} → (Node → Result T Errors → Node → Type 0) → List ℕ → Stop Errors → Type 0
NotRead reads text (stops.Memory e) = ⊤
NotRead reads text (stops.Fault faults) =
    ((error : Error) × IsRefusal text depth_limit (stops.Fault error) × (faults ≡ one (content_of error)))
    ⊎ IsReadAs reads text (Err faults)

-- The text is parsed into a tree, and reading the tree as a type that can warn can have this result and turn the list
-- `warnings` into `more`.
abbrev pub IsReadWithWarnings : {T : Type 0}
    → (Node → Result T Errors → List ErrorContent → List ErrorContent → Type 0) → List ℕ → Result T Errors
    → List ErrorContent → List ErrorContent → Type 0
IsReadWithWarnings reads text answer warnings more =
    (root : Value) × IsTree text depth_limit root × reads (view root) answer warnings more

-- Either the text can't be parsed, the only error reports why, and the warnings are unchanged, or it is parsed into a
-- tree, and reading the tree as the type can fail with these errors and turn the list `warnings` into `more`. A failed
-- allocation is possible for any text.
abbrev pub NotReadWithWarnings : {T : Type 0}
    → (Node → Result T Errors → List ErrorContent → List ErrorContent → Type 0) → List ℕ → Stop Errors
    → List ErrorContent → List ErrorContent → Type 0
NotReadWithWarnings reads text (stops.Memory e) warnings more = ⊤
NotReadWithWarnings reads text (stops.Fault faults) warnings more =
    ((error : Error) × IsRefusal text depth_limit (stops.Fault error) × (faults ≡ one (content_of error))
    × (more ≡ warnings))
    ⊎ IsReadWithWarnings reads text (Err faults) warnings more
