-- What a read that warns may return, and which warnings it appends.
use Rattle.std.specs.Prelude.{◌≡◌, ⊤, ℕ, List, [], ◌∷◌, ◌++◌, Option, Some, None, MatchOption, Result, Ok, Err, codes}
use Rattle.std.specs.Prelude.{drop, length}
use Rattle.std.specs.declared.alloc.AllocError.{AllocError}
use Rattle.toml_span_lex.specs.declared.stop.Stop.{Stop}
use Rattle.toml_span_lex.specs.declared.stop.Stop.TheVariants as stop
use Rattle.toml_span_tree.specs.Error.{ErrorContent}
use Rattle.toml_span_tree.specs.Node.{Node, node, array}
use Rattle.toml_span_typed.specs.Aliases.{lacks}
use Rattle.toml_span_tree.specs.Errors.{Errors, all}
use Rattle.toml_span_typed.specs.Reads.{Joins, nodes_of, refused}
use Rattle.toml_span_typed.specs.TableHelper.{AfterAllocError, State, found, keeping, noted}

-- The list `more` begins with the earlier warnings, `warnings`.
abbrev pub Extends : List ErrorContent → List ErrorContent → Type 0
Extends warnings more = more ≡ warnings ++ drop (length warnings) more

-- The result and the warnings are ones that the type's `reads` allows. If an allocation failed, any are allowed.
abbrev pub AnswersWithWarnings : {T : Type 0}
    → (Node → Result T Errors → List ErrorContent → List ErrorContent → Type 0) → Node → Result T (Stop Errors)
    → List ErrorContent → List ErrorContent → Type 0
AnswersWithWarnings reads value (Ok x) warnings more = reads value (Ok x) warnings more
AnswersWithWarnings reads value (Err (stop.Fault faults)) warnings more = reads value (Err faults) warnings more
AnswersWithWarnings reads value (Err (stop.Memory error)) warnings more = ⊤

-- If `moved` is a value, which was moved out of the table, it is read: the result is the read value, or None after all
-- errors of the read were kept. If `moved` is None, so is the result, and the state afterwards is `none before`.
abbrev pub ReadsMovedWithWarnings : {T : Type 0}
    → (Node → Result T Errors → List ErrorContent → List ErrorContent → Type 0) → (State → State) → Option Node
    → State → Option T → State → List ErrorContent → List ErrorContent → Type 0
ReadsMovedWithWarnings reads none moved before (Some x) after warnings more =
    (value : Node) × (moved ≡ Some value) × reads value (Ok x) warnings more × (after ≡ before)
ReadsMovedWithWarnings reads none moved before None after warnings more = MatchOption moved
    ((after ≡ none before) × (more ≡ warnings))
    (λ value. (faults : Errors) × reads value (Err faults) warnings more × (after ≡ keeping (all faults) before))

-- `read_with_warnings`: the read value; or None, after keeping the error of the missing name, or all errors of the read
abbrev pub AsksWithWarnings : {T : Type 0}
    → (Node → Result T Errors → List ErrorContent → List ErrorContent → Type 0) → List ℕ → State
    → Result (Option T) AllocError → State → List ErrorContent → List ErrorContent → Type 0
AsksWithWarnings reads name before (Ok field) after warnings more =
    ReadsMovedWithWarnings reads (lacks name) (found name before) (noted name before) field after warnings more
AsksWithWarnings reads name before (Err error) after warnings more = AfterAllocError name before after

-- `read_optional_with_warnings`: the read value; or None, if the name is missing, or after keeping the errors of the
-- read
abbrev pub TriesWithWarnings : {T : Type 0}
    → (Node → Result T Errors → List ErrorContent → List ErrorContent → Type 0) → List ℕ → State
    → Result (Option T) AllocError → State → List ErrorContent → List ErrorContent → Type 0
TriesWithWarnings reads name before (Ok field) after warnings more =
    ReadsMovedWithWarnings reads (λ s. s) (found name before) (noted name before) field after warnings more
TriesWithWarnings reads name before (Err error) after warnings more = AfterAllocError name before after

-- For each value there is one result, which the read allows for the value. The warnings are appended value by value.
abbrev pub EachWithWarnings : {T : Type 0}
    → (Node → Result T Errors → List ErrorContent → List ErrorContent → Type 0) → List Node → List (Result T Errors)
    → List ErrorContent → List ErrorContent → Type 0
EachWithWarnings reads [] [] warnings more = more ≡ warnings
EachWithWarnings reads (value ∷ values) (answer ∷ answers) warnings more = (next : List ErrorContent)
    × reads value answer warnings next × EachWithWarnings reads values answers next more
EachWithWarnings reads _ _ warnings more = ⊥

-- Each value is read, and the results are joined.
abbrev pub ReadsAllWithWarnings : {T : Type 0}
    → (Node → Result T Errors → List ErrorContent → List ErrorContent → Type 0) → List Node → Result (List T) Errors
    → List ErrorContent → List ErrorContent → Type 0
ReadsAllWithWarnings reads values answer warnings more =
    (answers : List (Result _ Errors)) × EachWithWarnings reads values answers warnings more × Joins answers answer

-- the results of reading an array's elements as T, joined; or the error for any other value
abbrev pub array_with_warnings : {T : Type 0}
    → (Node → Result T Errors → List ErrorContent → List ErrorContent → Type 0) → Node → Result (List T) Errors
    → List ErrorContent → List ErrorContent → Type 0
array_with_warnings reads (node (array values) span) answer warnings more =
    ReadsAllWithWarnings reads (nodes_of values) answer warnings more
array_with_warnings reads value answer warnings more =
    (answer ≡ refused (codes "an array") value) × (more ≡ warnings)
