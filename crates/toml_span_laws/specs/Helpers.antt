-- What typed reads of a table find in the flat document.
use Rattle.std.specs.Prelude.{◌≡◌, ℕ, if◌then◌else◌, List, [], ◌∷◌, ◌++◌, Result, Ok, Err, Option, Some, None}
use Rattle.std.specs.Prelude.{MatchOption}
use Rattle.std.specs.Str.{bytes_eq}
use Rattle.std.specs.declared.alloc.AllocError.{AllocError}
use Rattle.toml_span_lex.specs.declared.stop.Stop.{Stop}
use Rattle.toml_span_lex.specs.declared.stop.Stop.TheVariants as stop
use Rattle.toml_span_lex.specs.declared.span.Span.{Span}
use Rattle.toml_span_tree.specs.Path.{Path, Place, key, position}
use Rattle.toml_span_tree.specs.Node.{Node, node, table, Members}
use Rattle.toml_span_tree.specs.declared.error.Error.{Error}
use Rattle.toml_span_tree.specs.Error.{content_of, ErrorContent, unexpected_keys}
use Rattle.toml_span_typed.specs.TableHelper.{AfterAllocError, State, keeping, missing, noted, remaining_keys}
use Rattle.toml_span_typed.specs.TableHelper.{where_filled}
use Rattle.toml_span_tree.specs.Errors.{Errors, all}
use Rattle.toml_span_laws.specs.Document.{IsValueOf, subtree}

-- the places of a table without those at the key with this name and below
abbrev pub hide : List ℕ → (Path → Option Place) → Path → Option Place
hide name places [] = places []
hide name places (position i ∷ p) = places (position i ∷ p)
hide name places (key other ∷ p) = if bytes_eq name other then None else places (key other ∷ p)

-- the places of a table without those at the keys with these names and below
abbrev pub except : List (List ℕ) → (Path → Option Place) → Path → Option Place
except [] places = places
except (name ∷ names) places = except names (hide name places)

-- The table has no keys other than these names.
abbrev pub HasNoKeyBut : List (List ℕ) → (Path → Option Place) → Type 0
HasNoKeyBut names places = (name : List ℕ) → except names places (key name ∷ []) ≡ None

-- a table of the helper's entries
abbrev pub table_of : State → Node
table_of s = node (table s.members) s.span

-- The helper was made for the table with these places: its entries are those of the table, except for the recorded
-- names.
abbrev pub IsOver : (Path → Option Place) → State → Type 0
IsOver places s = IsValueOf (except s.asked places) (table_of s)

-- This is a possible result of reading the value that shows these places.
abbrev pub ReadsPart : {T : Type 0} → (Node → Result T Errors → Node → Type 0) → (Path → Option Place) → Result T Errors
    → Type 0
ReadsPart reads places answer = (value : Node) × (left : Node) × IsValueOf places value × reads value answer left

-- `required`, where `places` are those of the table without the names recorded before: what is read from the value at
-- the key; or, if the key is missing, `MissingField`; or, if the read fails, its last error. All errors are kept. For a
-- failed allocation, see `AfterAllocError`.
abbrev pub RequiresAt : {T : Type 0} → (Node → Result T Errors → Node → Type 0) → List ℕ → (Path → Option Place) → State
    → Result T (Stop Error) → State → Type 0
RequiresAt reads name places before (Ok x) after =
    ReadsPart reads (subtree places (key name ∷ [])) (Ok x) × (after ≡ noted name before)
RequiresAt reads name places before (Err (stop.Fault error)) after = MatchOption (places (key name ∷ []))
    ((content_of error ≡ missing name before) × (after ≡ keeping (missing name before ∷ []) (noted name before)))
    (λ place. (faults : Errors) × ReadsPart reads (subtree places (key name ∷ [])) (Err faults)
    × (content_of error ≡ faults.last) × (after ≡ keeping (all faults) (noted name before)))
RequiresAt reads name places before (Err (stop.Memory error)) after = AfterAllocError name before after

-- `optional`, where `places` are as in `RequiresAt`: what is read from the value at the key; or, if the key is missing,
-- None; or, if the read fails, None, and all its errors are kept. For a failed allocation, see `AfterAllocError`.
abbrev pub TriesAt : {T : Type 0} → (Node → Result T Errors → Node → Type 0) → List ℕ → (Path → Option Place) → State
    → Result (Option T) AllocError → State → Type 0
TriesAt reads name places before (Ok (Some x)) after =
    ReadsPart reads (subtree places (key name ∷ [])) (Ok x) × (after ≡ noted name before)
TriesAt reads name places before (Ok None) after = MatchOption (places (key name ∷ []))
    (after ≡ noted name before)
    (λ place. (faults : Errors) × ReadsPart reads (subtree places (key name ∷ [])) (Err faults)
    × (after ≡ keeping (all faults) (noted name before)))
TriesAt reads name places before (Err error) after = AfterAllocError name before after

-- the error for the remaining keys, if there are any
abbrev pub left_over : List (List ℕ) → Span → Members → List ErrorContent
left_over asked span rest =
    where_filled rest
    (record { kind = unexpected_keys (remaining_keys rest) asked; span = span; line_info = None } ∷ [])

-- `finalize(None)` with errors: those that were kept, and then the error for the remaining keys, if there are any
abbrev pub EndsWith : (Path → Option Place) → State → Errors → Type 0
EndsWith places s faults =
    (rest : Members) × IsValueOf (except s.asked places) (node (table rest) s.span)
    × (all faults ≡ s.errors ++ left_over s.asked s.span rest)
