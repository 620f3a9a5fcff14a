-- What a typed read may return, and what it may leave of the value.
use Rattle.std.specs.Prelude.{◌≡◌, ⊤, ℕ, ℤ, pos, negsuc, nat_lt, Bool, List, [], ◌∷◌, ◌++◌, Option, Some, None, Result}
use Rattle.std.specs.Prelude.{Ok, Err, IfOk, codes, if◌then◌else◌}
use Rattle.toml_span_lex.specs.declared.span.Span.{Span}
use Rattle.toml_span_lex.specs.declared.stop.Stop.{Stop}
use Rattle.toml_span_lex.specs.declared.stop.Stop.TheVariants as stop
use Rattle.toml_span_tree.specs.Node.{FloatValue, Node, node, taken, scalar, array, text, integer, float, boolean}
use Rattle.toml_span_tree.specs.Node.{datetime, Items, no_items, item}
use Rattle.toml_span_tree.specs.Value.{wrong_kind, span_of}
use Rattle.toml_span_tree.specs.Error.{ErrorContent, out_of_range}
use Rattle.toml_span_tree.specs.Errors.{Errors, one, all}

abbrev pub result_map : {T U E : Type 0} → (T → U) → Result T E → Result U E
result_map f (Ok x) = Ok (f x)
result_map f (Err e) = Err e

-- The result is one that the type's `reads` allows for the value before the call and the value after it. If an
-- allocation failed, the value after it is one that `after_alloc_error` allows.
abbrev pub Answers : {T : Type 0} → (Node → Result T Errors → Node → Type 0) → (Node → Node → Type 0) → Node
    → Result T (Stop Errors) → Node → Type 0
Answers reads after_alloc_error before (Ok x) after = reads before (Ok x) after
Answers reads after_alloc_error before (Err (stop.Fault faults)) after = reads before (Err faults) after
Answers reads after_alloc_error before (Err (stop.Memory error)) after = after_alloc_error before after

-- The content of the value has been taken, and its span is the same.
abbrev pub Taken : Node → Node → Type 0
Taken before after = after ≡ node taken (span_of before)

-- nothing has changed
abbrev pub Unchanged : Node → Node → Type 0
Unchanged before after = after ≡ before

-- No allocation can fail, because the call does not allocate.
abbrev pub Never : Node → Node → Type 0
Never before after = ⊥

-- The result is the one that the function `read` returns for the value, and the value's content has been taken.
abbrev pub Gives : {T : Type 0} → (Node → Result T Errors) → Node → Result T Errors → Node → Type 0
Gives read before answer after = (answer ≡ read before) × Taken before after

-- a failed read, whose only error is that the value is of another kind than the expected one
abbrev pub refused : {T : Type 0} → List ℕ → Node → Result T Errors
refused expected value = Err (one (wrong_kind expected value))

-- the error for a number that the type with this name can't represent
abbrev pub beyond_range : List ℕ → Span → ErrorContent
beyond_range name span = record { kind = out_of_range name; span = span; line_info = None }

-- the text of a string; a value of another kind is refused, here and in the next three definitions
abbrev pub read_string : Node → Result (List ℕ) Errors
read_string (node (scalar (text s)) span) = Ok s
read_string value = refused (codes "a string") value

abbrev pub read_boolean : Node → Result Bool Errors
read_boolean (node (scalar (boolean b)) span) = Ok b
read_boolean value = refused (codes "a bool") value

abbrev pub read_float : Node → Result FloatValue Errors
read_float (node (scalar (float x)) span) = Ok x
read_float value = refused (codes "a float") value

-- the text of the date or time
abbrev pub read_datetime : Node → Result (List ℕ) Errors
read_datetime (node (scalar (datetime d)) span) = Ok d
read_datetime value = refused (codes "a datetime") value

-- the integer as an unsigned number, if it is not negative and is below the limit
abbrev pub unsigned : ℕ → ℤ → Option ℕ
unsigned limit (pos n) = if nat_lt n limit then Some n else None
unsigned limit (negsuc n) = None

-- the signed number z, if -limit ≤ z < limit
abbrev pub signed : ℕ → ℤ → Option ℤ
signed limit (pos n) = if nat_lt n limit then Some (pos n) else None
signed limit (negsuc n) = if nat_lt n limit then Some (negsuc n) else None

abbrev pub or_out_of : {T : Type 0} → List ℕ → Span → Option T → Result T Errors
or_out_of name span (Some n) = Ok n
or_out_of name span None = Err (one (beyond_range name span))

-- the integer, if the type with this name can represent it
abbrev pub read_integer : {T : Type 0} → List ℕ → (ℤ → Option T) → Node → Result T Errors
read_integer name held (node (scalar (integer z)) span) = or_out_of name span (held z)
read_integer name held value = refused name value

-- The result, without its span, is one that `reads` allows. Its span is that of the value.
abbrev pub spanned : {T S : Type 0} → (Node → Result T Errors → Node → Type 0) → (S → T) → (S → Span) → Node
    → Result S Errors → Node → Type 0
spanned reads value_in span_in before answer after =
    reads before (result_map value_in answer) after × IfOk answer (λ s. span_in s ≡ span_of before)

-- an array's elements, in order
abbrev pub nodes_of : Items → List Node
nodes_of no_items = []
nodes_of (item value values) = value ∷ nodes_of values

-- For each value there is one result, which the read allows for the value.
abbrev pub EachReads : {T : Type 0} → (Node → Result T Errors → Node → Type 0) → List Node → List (Result T Errors)
    → Type 0
EachReads reads [] [] = ⊤
EachReads reads (value ∷ values) (answer ∷ answers) =
    ((after : Node) × reads value answer after) × EachReads reads values answers
EachReads reads _ _ = ⊥

-- the read values among the results, in order
abbrev pub elements : {T : Type 0} → List (Result T Errors) → List T
elements [] = []
elements (Ok x ∷ answers) = x ∷ elements answers
elements (Err faults ∷ answers) = elements answers

-- the errors of all results, in order
abbrev pub errors : {T : Type 0} → List (Result T Errors) → List ErrorContent
errors [] = []
errors (Ok x ∷ answers) = errors answers
errors (Err faults ∷ answers) = all faults ++ errors answers

-- All read values if no result is an error, otherwise all errors.
abbrev pub Joins : {T : Type 0} → List (Result T Errors) → Result (List T) Errors → Type 0
Joins answers (Ok xs) = (errors answers ≡ []) × (elements answers ≡ xs)
Joins answers (Err faults) = errors answers ≡ all faults

-- Each value is read, and the results are joined.
abbrev pub ReadsAll : {T : Type 0} → (Node → Result T Errors → Node → Type 0) → List Node → Result (List T) Errors
    → Type 0
ReadsAll reads values answer =
    (answers : List (Result _ Errors)) × EachReads reads values answers × Joins answers answer

-- The results of reading an array's elements as T, joined; or the error for any other value. The value is taken.
abbrev pub array_reads : {T : Type 0} → (Node → Result T Errors → Node → Type 0) → Node → Result (List T) Errors → Node
    → Type 0
array_reads reads (node (array values) span) answer after =
    ReadsAll reads (nodes_of values) answer × Taken (node (array values) span) after
array_reads reads value answer after = (answer ≡ refused (codes "an array") value) × Taken value after
