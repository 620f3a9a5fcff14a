-- Results of the methods in `table_helper/fields.rt`, of `parsed` and `parse_with`, and of reads of a `Parsed`, a `Box`
-- or an `Option`.
use Rattle.std.specs.Prelude.{◌≡◌, ◌⊎◌, ℕ, List, [], ◌∷◌, length, Option, Some, None, MatchOption, true, Result, Ok}
use Rattle.std.specs.Prelude.{Err}
use Rattle.std.specs.declared.alloc.AllocError.{AllocError}
use Rattle.toml_span_lex.specs.declared.stop.Stop.{Stop}
use Rattle.toml_span_lex.specs.declared.stop.Stop.TheVariants as stop
use Rattle.toml_span_tree.specs.declared.error.Error.{Error}
use Rattle.toml_span_tree.specs.Error.{content_of}
use Rattle.toml_span_tree.specs.Node.{Node}
use Rattle.toml_span_tree.specs.Value.{inner_of, is_filled, text_in}
use Rattle.toml_span_tree.specs.Errors.{Errors, all, one}
use Rattle.toml_span_typed.specs.Parse.{Parses}
use Rattle.toml_span_typed.specs.TableHelper.{AfterAllocError, Requires, State, found, keeping, missing, noted}
use Rattle.toml_span_typed.specs.TableHelper.{with_unasked}
use Rattle.toml_span_typed.specs.declared.de_helpers.table_helper.Unfinished.{Unfinished}
use Rattle.toml_span_typed.specs.declared.de_helpers.table_helper.Unfinished.TheVariants as unfinished

-- the errors as a `Fault`, or the failed allocation as `Memory`
abbrev pub stop_of : Unfinished → Stop Errors
stop_of (unfinished.Faults faults) = stop.Fault faults
stop_of (unfinished.Memory helper) = stop.Memory (record {})

-- `read`: the read value; or None, after keeping the error of the missing name, or all errors of the read
abbrev pub Asks : {T : Type 0} → (Node → Result T Errors → Node → Type 0) → List ℕ → State
    → Result (Option T) AllocError → State → Type 0
Asks reads name before (Ok (Some x)) after =
    (value : Node) × (left : Node) × (found name before ≡ Some value) × reads value (Ok x) left
    × (after ≡ noted name before)
Asks reads name before (Ok None) after = MatchOption (found name before)
    (after ≡ keeping (missing name before ∷ []) (noted name before))
    (λ value. (faults : Errors) × (left : Node) × reads value (Err faults) left
    × (after ≡ keeping (all faults) (noted name before)))
Asks reads name before (Err error) after = AfterAllocError name before after

-- `kept`: the read value; or None, after keeping the errors of the read
abbrev pub Keeps : {T : Type 0} → Result T (Stop Errors) → State → Option T → State → Type 0
Keeps (Ok x) before answer after = (answer ≡ Some x) × (after ≡ before)
Keeps (Err (stop.Fault faults)) before answer after = (answer ≡ None) × (after ≡ keeping (all faults) before)
Keeps (Err (stop.Memory error)) before answer after = ⊥

-- `require`: as in `Requires`, with the error as the only one in `Errors`
abbrev pub RequiresAll : {T : Type 0} → (Node → Result T Errors → Node → Type 0) → List ℕ → State
    → Result T (Stop Errors) → State → Type 0
RequiresAll reads name before (Ok x) after = Requires reads name before (Ok x) after
RequiresAll reads name before (Err (stop.Fault faults)) after =
    (error : Error) × Requires reads name before (Err (stop.Fault error)) after × (faults ≡ one (content_of error))
RequiresAll reads name before (Err (stop.Memory e)) after = Requires reads name before (Err (stop.Memory e)) after

-- how many errors have been kept
abbrev pub kept : State → ℕ
kept s = length s.errors

-- 1 if the field could not be read, otherwise 0
abbrev pub lacking : {T : Type 0} → Option T → ℕ
lacking None = 1
lacking (Some x) = 0

-- `finish`: the kept errors, and the one for the remaining keys; an allocation can fail only if keys remain
abbrev pub Finishes : State → Result (Unit {0}) (Stop Errors) → Type 0
Finishes s (Ok done) = with_unasked s ≡ []
Finishes s (Err (stop.Fault faults)) = with_unasked s ≡ all faults
Finishes s (Err (stop.Memory error)) = is_filled s.members ≡ true

-- `finish_into`: the kept errors
abbrev pub FinishesInto : State → Result (Unit {0}) (Stop Errors) → Type 0
FinishesInto s (Ok done) = s.errors ≡ []
FinishesInto s (Err (stop.Fault faults)) = s.errors ≡ all faults
FinishesInto s (Err (stop.Memory error)) = ⊥

-- `parsed`: as in `Parses`, with the error as the only one in `Errors`
abbrev pub ParsesAll : {T E : Type 0} → (List ℕ → Result T E → Type 0) → (E → Option (List ℕ)) → Node
    → Result T (Stop Errors) → Type 0
ParsesAll gives output value (Ok x) = Parses gives output value (Ok x)
ParsesAll gives output value (Err (stop.Fault faults)) =
    (error : Error) × Parses gives output value (Err (stop.Fault error)) × (faults ≡ one (content_of error))
ParsesAll gives output value (Err (stop.Memory e)) = Parses gives output value (Err (stop.Memory e))

-- the same result, with its error as a `Fault`
abbrev pub with_fault : {T E : Type 0} → Result T E → Result T (Stop E)
with_fault (Ok x) = Ok x
with_fault (Err refusal) = Err (stop.Fault refusal)

-- `parse_with`: the value that `makes` allows for the string; or an error that `makes` allows, reported as by `parsed`;
-- or a failed allocation
abbrev pub ParsesWith : {T E : Type 0} → (List ℕ → Result T (Stop E) → Type 0) → (E → Option (List ℕ)) → Node
    → Result T (Stop Errors) → Type 0
ParsesWith makes output value (Ok x) = ParsesAll (λ text r. makes text (with_fault r)) output value (Ok x)
ParsesWith makes output value (Err (stop.Fault faults)) =
    ParsesAll (λ text r. makes text (with_fault r)) output value (Err (stop.Fault faults))
ParsesWith makes output value (Err (stop.Memory e)) =
    ParsesAll (λ text r. makes text (with_fault r)) output value (Err (stop.Memory e))
    ⊎ ((text : List ℕ) × (text_in (inner_of value) ≡ Some text) × makes text (Err (stop.Memory e)))

-- the result of `parsed`, if no allocation failed
abbrev pub AsParsed : {T E : Type 0} → (List ℕ → Result T E → Type 0) → (E → Option (List ℕ)) → Node
    → Result T Errors → Type 0
AsParsed gives output value (Ok x) = ParsesAll gives output value (Ok x)
AsParsed gives output value (Err faults) = ParsesAll gives output value (Err (stop.Fault faults))

-- The read returned a value, which was then dropped.
abbrev pub AsRead : {T : Type 0} → (Node → Result T Errors → Node → Type 0) → Node → Node → Type 0
AsRead reads before after = (x : _) × reads before (Ok x) after

-- the result of the read, with the read value in a Some
abbrev pub AsSome : {T : Type 0} → (Node → Result T Errors → Node → Type 0) → Node → Result (Option T) Errors → Node
    → Type 0
AsSome reads before (Ok (Some x)) after = reads before (Ok x) after
AsSome reads before (Ok None) after = ⊥
AsSome reads before (Err faults) after = reads before (Err faults) after
