-- What `TableHelper` contains, and what its methods do.
use Rattle.std.specs.Prelude.{◌≡◌, ◌⊎◌, ℕ, List, [], ◌∷◌, ◌++◌, map, IsTrue, cond, Option, Some, None, option_map}
use Rattle.std.specs.Prelude.{Result, Ok, Err, MatchOption, codes, true}
use Rattle.std.specs.Borrow.{MutBor}
use Rattle.std.specs.Cow.{cow_str_bytes}
use Rattle.std.specs.Str.{bytes_eq}
use Rattle.std.specs.declared.alloc.AllocError.{AllocError}
use Rattle.std.proofs.Common.{inl, inr}
use Rattle.toml_span_lex.specs.declared.key.Key.{Key}
use Rattle.toml_span_lex.specs.declared.span.Span.{Span}
use Rattle.toml_span_lex.specs.declared.stop.Stop.{Stop}
use Rattle.toml_span_lex.specs.declared.stop.Stop.TheVariants as stop
use Rattle.toml_span_tree.specs.declared.error.Error.{Error}
use Rattle.toml_span_tree.specs.declared.value.Value.{Value}
use Rattle.toml_span_tree.specs.Error.{ErrorContent, content_of, missing_field, unexpected_keys}
use Rattle.toml_span_tree.specs.Node.{Members, Node, entry_at, member, no_members, node, table}
use Rattle.toml_span_tree.specs.Value.{all_members_whole, is_filled, members_view, span_of, view}
use Rattle.std.specs.BTreeMap.{BTreeMap}
use Rattle.toml_span_tree.specs.Errors.{Errors, all}
use Rattle.toml_span_typed.specs.Reads.{refused}
use Rattle.toml_span_typed.specs.declared.de_helpers.table_helper.TableHelper.{TableHelper}
use Rattle.toml_span_typed.specs.declared.de_helpers.table_helper.Unfinished.{Unfinished}
use Rattle.toml_span_typed.specs.declared.de_helpers.table_helper.Unfinished.TheVariants as unfinished

-- the entries that remain, the recorded names, the kept errors, and the span of the table
pub record State : Type 0 where
  pub members : Members
  pub asked : List (List ℕ)
  pub errors : List ErrorContent
  pub span : Span

abbrev pub state_of : TableHelper → State
state_of helper = record {
  members = members_view helper.table.entries;
  asked = map (λ name. name.now) helper.asked.items;
  errors = map content_of helper.errors.items;
  span = helper.span;
}

-- Nothing has been taken from the values of the entries.
abbrev pub AllWhole : State → Type 0
AllWhole s = IsTrue (all_members_whole s.members)

-- the value of the entry with this name
abbrev pub found : List ℕ → State → Option Node
found name s = option_map (λ entry. entry.1) (entry_at name s.members)

-- the entries without the one with this name
abbrev pub without : List ℕ → Members → Members
without name no_members = no_members
without name (member other span value rest) =
    cond (bytes_eq name other) rest (member other span value (without name rest))

-- the state after the name was recorded and its entry removed
abbrev pub noted : List ℕ → State → State
noted name s =
    record { members = without name s.members; asked = s.asked ++ name ∷ []; errors = s.errors; span = s.span }

-- the state after these errors were kept
abbrev pub keeping : List ErrorContent → State → State
keeping faults s = record { members = s.members; asked = s.asked; errors = s.errors ++ faults; span = s.span }

-- the error that the name is missing
abbrev pub missing : List ℕ → State → ErrorContent
missing name s = record { kind = missing_field name; span = s.span; line_info = None }

-- a helper for these entries, without recorded names and errors
abbrev pub fresh : Members → Span → State
fresh members span = record { members = members; asked = []; errors = []; span = span }

-- `new`: a helper for the entries of a table, or the error for any other value
abbrev pub OpensTable : Node → Result State Errors → Type 0
OpensTable (node (table members) span) answer = answer ≡ Ok (fresh members span)
OpensTable value answer = answer ≡ refused (codes "a table") value

-- This is the entry of the name, with the span of its key.
abbrev pub IsEntry : List ℕ → State → Key × Value → Type 0
IsEntry name s entry =
    (cow_str_bytes entry.0.name ≡ name) × (entry_at name s.members ≡ Some (Some entry.0.span, view entry.1))

-- `take`: records the name, and returns its entry; if an allocation fails, nothing changes
abbrev pub Takes : List ℕ → State → Result (Option (Key × Value)) AllocError → State → Type 0
Takes name before (Ok None) after = (found name before ≡ None) × (after ≡ noted name before)
Takes name before (Ok (Some entry)) after = IsEntry name before entry × (after ≡ noted name before)
Takes name before (Err error) after = after ≡ before

-- An allocation failed in a read: nothing has changed, or the name has been recorded and its entry removed, and no
-- error was kept.
abbrev pub AfterAllocError : List ℕ → State → State → Type 0
AfterAllocError name before after = (after ≡ before) ⊎ (after ≡ noted name before)

-- `required`: the read value; or, after keeping all errors, the error of the missing name or the last error of the read
abbrev pub Requires : {T : Type 0} → (Node → Result T Errors → Node → Type 0) → List ℕ → State → Result T (Stop Error)
    → State → Type 0
Requires reads name before (Ok x) after =
    (value : Node) × (left : Node) × (found name before ≡ Some value) × reads value (Ok x) left
    × (after ≡ noted name before)
Requires reads name before (Err (stop.Fault error)) after = MatchOption (found name before)
    ((content_of error ≡ missing name before) × (after ≡ keeping (missing name before ∷ []) (noted name before)))
    (λ value. (faults : Errors) × (left : Node) × reads value (Err faults) left
    × (content_of error ≡ faults.last) × (after ≡ keeping (all faults) (noted name before)))
Requires reads name before (Err (stop.Memory error)) after = AfterAllocError name before after

-- `optional`: the read value; or None, if the name is missing, or after keeping the errors of the read
abbrev pub Tries : {T : Type 0} → (Node → Result T Errors → Node → Type 0) → List ℕ → State
    → Result (Option T) AllocError → State → Type 0
Tries reads name before (Ok (Some x)) after =
    (value : Node) × (left : Node) × (found name before ≡ Some value) × reads value (Ok x) left
    × (after ≡ noted name before)
Tries reads name before (Ok None) after = MatchOption (found name before)
    (after ≡ noted name before)
    (λ value. (faults : Errors) × (left : Node) × reads value (Err faults) left
    × (after ≡ keeping (all faults) (noted name before)))
Tries reads name before (Err error) after = AfterAllocError name before after

-- the remaining keys with their spans, in the order of their names
abbrev pub remaining_keys : Members → List (List ℕ × Span)
remaining_keys no_members = []
remaining_keys (member name span value rest) = (name, span) ∷ remaining_keys rest

-- the error for the remaining keys
abbrev pub unexpected_entries : State → ErrorContent
unexpected_entries s =
    record { kind = unexpected_keys (remaining_keys s.members) s.asked; span = s.span; line_info = None }

abbrev pub where_filled : Members → List ErrorContent → List ErrorContent
where_filled no_members faults = []
where_filled (member name span value rest) faults = faults

-- the error for the remaining keys, if there are any
abbrev pub unasked : State → List ErrorContent
unasked s = where_filled s.members (unexpected_entries s ∷ [])

-- all errors at the end, if the remaining keys are an error
abbrev pub with_unasked : State → List ErrorContent
with_unasked s = s.errors ++ unasked s

-- Ok if the list of errors is empty, otherwise all of them. Nothing is allocated.
abbrev pub EndsWithErrors : List ErrorContent → Result (Unit {0}) Unfinished → Type 0
EndsWithErrors errors (Ok done) = errors ≡ []
EndsWithErrors errors (Err (unfinished.Faults faults)) = errors ≡ all faults
EndsWithErrors errors (Err (unfinished.Memory helper)) = ⊥

-- `finalize(None)`: remaining keys are an error; an allocation can fail only if there are any, and then the helper is
-- returned unchanged
abbrev pub Refuses : State → Result (Unit {0}) Unfinished → Type 0
Refuses s (Err (unfinished.Memory helper)) = (is_filled s.members ≡ true) × (state_of helper ≡ s)
Refuses s (Err (unfinished.Faults faults)) = with_unasked s ≡ all faults
Refuses s (Ok done) = with_unasked s ≡ []

-- `finalize`: with a value, only kept errors are returned; without one, remaining keys are an error too
abbrev pub Finalizes : {V : Type 0} → State → Option V → Result (Unit {0}) Unfinished → Type 0
Finalizes s (Some value) answer = EndsWithErrors s.errors answer
Finalizes s None answer = Refuses s answer

-- After the call, the value contains a table of the entries `rest`. Its span is the same as before the call.
abbrev pub HoldsRest : BTreeMap Key Value → Value → Value → Type 0
HoldsRest rest before after = view after ≡ node (table (members_view rest.entries)) (span_of (view before))

-- For a parameter of the type `Option<&mut V>`, as it is on entry and on exit: if it is Some, P relates the referenced
-- value before the call to the value after the call.
abbrev pub Leaves : {V : Type 0} → (V → V → Type 0) → Option (MutBor V) → Unit {0} ⊎ ((MutBor V × Unit {0}) ⊎ ⊥)
    → Type 0
Leaves P None exit = Unit {0}
Leaves P (Some v) (inr (inl exit)) = P v.now exit.0.now
Leaves P (Some v) _ = ⊥
