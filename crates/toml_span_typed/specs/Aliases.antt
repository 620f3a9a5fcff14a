-- What `TableHelper` returns for a field that also has an old name.
use Rattle.std.specs.Prelude.{◌≡◌, ◌⊎◌, ℕ, List, [], ◌∷◌, ◌++◌, Option, Some, None, option_map, MatchOption, nat_lt}
use Rattle.std.specs.Prelude.{if◌then◌else◌, Result, Ok, Err}
use Rattle.std.specs.declared.alloc.AllocError.{AllocError}
use Rattle.toml_span_lex.specs.declared.span.Span.{Span}
use Rattle.toml_span_tree.specs.Error.{ErrorContent, deprecated, duplicate_key}
use Rattle.toml_span_tree.specs.declared.value.Value.{Value}
use Rattle.toml_span_tree.specs.Node.{Node, entry_at}
use Rattle.toml_span_tree.specs.Value.{view}
use Rattle.toml_span_tree.specs.Errors.{Errors, all}
use Rattle.toml_span_typed.specs.TableHelper.{AfterAllocError, State, keeping, missing, noted, without}

-- the error `DuplicateKey` for the key with this name, at its span; `first` is the span of the earlier key
abbrev pub duplicate_key_error : List ℕ → Span → Span → ErrorContent
duplicate_key_error name span first = record { kind = duplicate_key name first; span = span; line_info = None }

-- the error for a field that is present under both names, at the later key
abbrev pub twice : List ℕ → Span → List ℕ → Span → ErrorContent
twice name span old other =
    if nat_lt span.start other.start then duplicate_key_error old other span else duplicate_key_error name span other

-- an entry: the span of its key, and its value
abbrev pub Entry : Type 0
Entry = Option Span × Node

abbrev pub entry_of : Span × Value → Entry
entry_of moved = (Some moved.0, view moved.1)

abbrev pub twice_at : List ℕ → Option Span → List ℕ → Option Span → State → State
twice_at name (Some span) old (Some other) s = keeping (twice name span old other ∷ []) s
twice_at name _ old _ s = s

-- The state s or, if both names have an entry, s after the error for a field under both names was kept.
abbrev pub keeping_twice : List ℕ → Option Entry → List ℕ → Option Entry → State → State
keeping_twice name (Some entry) old (Some other) s = twice_at name entry.0 old other.0 s
keeping_twice name _ old _ s = s

-- the entry of a name in the state
abbrev pub newer : List ℕ → State → Option Entry
newer name s = entry_at name s.members

abbrev pub older : List ℕ → List ℕ → State → Option Entry
older name old s = entry_at old (without name s.members)

-- the value of the first entry or, if the first entry is None, of the second
abbrev pub first_value : Option Entry → Option Entry → Option Node
first_value (Some entry) other = Some entry.1
first_value None other = option_map (λ e. e.1) other

abbrev pub either : List ℕ → List ℕ → State → Option Node
either name old s = first_value (newer name s) (older name old s)

-- The state without the entry of the name, which is not recorded.
abbrev pub passed : List ℕ → State → State
passed name s =
    record { members = without name s.members; asked = s.asked; errors = s.errors; span = s.span }

-- The state after both names were recorded and their entries removed. If both had an entry, the error for that was
-- kept.
abbrev pub asked_both : List ℕ → List ℕ → State → State
asked_both name old s = keeping_twice name (newer name s) old (older name old s) (noted old (noted name s))

-- the same, but the old name is not recorded, so that no error lists it as expected
abbrev pub asked_deprecated : List ℕ → List ℕ → State → State
asked_deprecated name old s = keeping_twice name (newer name s) old (older name old s) (passed old (noted name s))

-- the warning for a key with the deprecated name `old`, at the span of the key; nothing without such a key
abbrev pub outdated_at : List ℕ → List ℕ → Option (Option Span) → List ErrorContent
outdated_at name old (Some (Some span)) = record { kind = deprecated old name; span = span; line_info = None } ∷ []
outdated_at name old _ = []

-- the warning, if the old name has an entry
abbrev pub outdated : List ℕ → List ℕ → State → List ErrorContent
outdated name old s = outdated_at name old (option_map (λ entry. entry.0) (older name old s))

-- the state after the error for the missing name was kept
abbrev pub lacks : List ℕ → State → State
lacks name s = keeping (missing name s ∷ []) s

-- If `moved` is a value, which was moved out of the table, it is read: the result is the read value, or None after all
-- errors of the read were kept. If `moved` is None, so is the result, and the state afterwards is `none before`.
abbrev pub ReadsMoved : {T : Type 0} → (Node → Result T Errors → Node → Type 0) → (State → State) → Option Node
    → State → Option T → State → Type 0
ReadsMoved reads none moved before (Some x) after =
    (value : Node) × (left : Node) × (moved ≡ Some value) × reads value (Ok x) left × (after ≡ before)
ReadsMoved reads none moved before None after = MatchOption moved
    (after ≡ none before)
    (λ value. (faults : Errors) × (left : Node) × reads value (Err faults) left × (after ≡ keeping (all faults) before))

-- An allocation failed: nothing has changed, or one or both names have been recorded and their entries removed. A new
-- error can only be that for a field under both names.
abbrev pub AfterAllocErrorEither : List ℕ → List ℕ → State → State → Type 0
AfterAllocErrorEither name old before after =
    AfterAllocError name before after ⊎ (after ≡ noted old (noted name before)) ⊎ (after ≡ asked_both name old before)

abbrev pub AfterAllocErrorDeprecated : List ℕ → List ℕ → State → State → Type 0
AfterAllocErrorDeprecated name old before after =
    (after ≡ before) ⊎ (after ≡ passed old (noted name before)) ⊎ (after ≡ asked_deprecated name old before)

-- `read_either`: the read value; or None, after keeping the error of the missing name, or all errors of the read
abbrev pub AsksEither : {T : Type 0} → (Node → Result T Errors → Node → Type 0) → List ℕ → List ℕ → State
    → Result (Option T) AllocError → State → Type 0
AsksEither reads name old before (Ok field) after =
    ReadsMoved reads (lacks name) (either name old before) (asked_both name old before) field after
AsksEither reads name old before (Err error) after = AfterAllocErrorEither name old before after

-- `read_optional_either`: the read value; or None, if both names are missing, or after keeping the errors of the read
abbrev pub TriesEither : {T : Type 0} → (Node → Result T Errors → Node → Type 0) → List ℕ → List ℕ → State
    → Result (Option T) AllocError → State → Type 0
TriesEither reads name old before (Ok field) after =
    ReadsMoved reads (λ s. s) (either name old before) (asked_both name old before) field after
TriesEither reads name old before (Err error) after = AfterAllocErrorEither name old before after

-- `read_deprecated` and `read_optional_deprecated`: the same, but the old name is not recorded
abbrev pub AsksDeprecated : {T : Type 0} → (Node → Result T Errors → Node → Type 0) → List ℕ → List ℕ → State
    → Result (Option T) AllocError → State → Type 0
AsksDeprecated reads name old before (Ok field) after =
    ReadsMoved reads (lacks name) (either name old before) (asked_deprecated name old before) field after
AsksDeprecated reads name old before (Err error) after = AfterAllocErrorDeprecated name old before after

abbrev pub TriesDeprecated : {T : Type 0} → (Node → Result T Errors → Node → Type 0) → List ℕ → List ℕ → State
    → Result (Option T) AllocError → State → Type 0
TriesDeprecated reads name old before (Ok field) after =
    ReadsMoved reads (λ s. s) (either name old before) (asked_deprecated name old before) field after
TriesDeprecated reads name old before (Err error) after = AfterAllocErrorDeprecated name old before after

-- The warning about the old name, if there is one, is appended to the earlier warnings. If an allocation failed, it may
-- be missing.
abbrev pub Warns : {T : Type 0} → List ErrorContent → List ErrorContent → Result T AllocError → List ErrorContent
    → Type 0
Warns warnings warning (Ok x) more = more ≡ warnings ++ warning
Warns warnings warning (Err error) more = (more ≡ warnings) ⊎ (more ≡ warnings ++ warning)
