-- Arrays of two elements, whose types may differ.
use Rattle.std.specs.Prelude.{◌≡◌, ◌≢◌, ⊤, ℕ, [], ◌∷◌, ◌++◌, length, Result, Ok, Err, None, codes}
use Rattle.std.specs.Fmt.{decimal}
use Rattle.toml_span_lex.specs.declared.span.Span.{Span}
use Rattle.toml_span_lex.specs.declared.stop.Stop.{Stop}
use Rattle.toml_span_lex.specs.declared.stop.Stop.TheVariants as stop
use Rattle.toml_span_tree.specs.Error.{ErrorContent, custom}
use Rattle.toml_span_tree.specs.Node.{Node, array, item, no_items, node}
use Rattle.toml_span_tree.specs.Value.{wrong_kind}
use Rattle.toml_span_tree.specs.Errors.{Errors, all, one}
use Rattle.toml_span_typed.specs.Reads.{Taken, errors, nodes_of}

-- an array of these two values
abbrev pub holds_two : Node → Node → Span → Node
holds_two first second span = node (array (item first (item second no_items))) span

-- the error for an array of `found` elements instead of `wanted`
abbrev pub other_length : ℕ → ℕ → Span → ErrorContent
other_length wanted found span = record {
  kind = custom (codes "expected " ++ decimal wanted ++ codes " elements, found " ++ decimal found);
  span = span;
  line_info = None;
}

-- the errors for a value that is not an array of n elements
abbrev pub Miscounts : ℕ → Node → Errors → Type 0
Miscounts n (node (array values) span) faults =
    (length (nodes_of values) ≢ n) × (faults ≡ one (other_length n (length (nodes_of values)) span))
Miscounts n value faults = faults ≡ one (wrong_kind (codes "an array") value)

-- the errors for a value that is not an array of n elements, or a failed allocation
abbrev pub RefusesLength : ℕ → Node → Stop Errors → Type 0
RefusesLength n value (stop.Fault faults) = Miscounts n value faults
RefusesLength n value (stop.Memory error) = ⊤

-- this error as the only one, or a failed allocation
abbrev pub StopsWith : ErrorContent → Stop Errors → Type 0
StopsWith fault (stop.Fault faults) = faults ≡ one fault
StopsWith fault (stop.Memory error) = ⊤

-- The read of the type allows this result for the value.
abbrev pub IsReadAs : {T : Type 0} → (Node → Result T Errors → Node → Type 0) → Node → Result T Errors → Type 0
IsReadAs reads value answer = (after : Node) × reads value answer after

-- both read values, or the errors of both reads
abbrev pub JoinsTwo : {A B : Type 0} → Result A Errors → Result B Errors → Result (A × B) Errors → Type 0
JoinsTwo (Ok a) (Ok b) answer = answer ≡ Ok (a, b)
JoinsTwo first second (Err faults) = errors (first ∷ []) ++ errors (second ∷ []) ≡ all faults
JoinsTwo first second (Ok pair) = ⊥

-- The results of reading the two elements of an array, joined; or the error for any other value. The value is taken.
abbrev pub pair_reads : {A B : Type 0} → (Node → Result A Errors → Node → Type 0)
    → (Node → Result B Errors → Node → Type 0)
    → Node → Result (A × B) Errors → Node → Type 0
pair_reads reads-a reads-b (node (array (item a (item b no_items))) span) answer after =
    (first : Result _ Errors) × (second : Result _ Errors) × IsReadAs reads-a a first × IsReadAs reads-b b second
    × JoinsTwo first second answer × Taken (holds_two a b span) after
pair_reads reads-a reads-b value (Err faults) after = Miscounts 2 value faults × Taken value after
pair_reads reads-a reads-b value (Ok pair) after = ⊥
