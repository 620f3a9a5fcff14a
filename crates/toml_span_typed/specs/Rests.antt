-- Reading the remaining entries of a table as another type.
use Rattle.std.specs.Prelude.{◌≡◌, Option, Some, None, Result, Ok, Err}
use Rattle.toml_span_tree.specs.Node.{Node, no_members, node, table}
use Rattle.toml_span_tree.specs.Errors.{Errors, all}
use Rattle.toml_span_typed.specs.TableHelper.{State, keeping}

-- the state without entries
abbrev pub emptied : State → State
emptied s = record { members = no_members; asked = s.asked; errors = s.errors; span = s.span }

-- a table of the entries that remain
abbrev pub remaining : State → Node
remaining s = node (table s.members) s.span

-- `read_rest`: the read value; or None, after keeping all errors of the read
abbrev pub ReadsRest : {T : Type 0} → (Node → Result T Errors → Node → Type 0) → State → Option T → State → Type 0
ReadsRest reads before (Some x) after =
    (left : Node) × reads (remaining before) (Ok x) left × (after ≡ emptied before)
ReadsRest reads before None after = (faults : Errors) × (left : Node) × reads (remaining before) (Err faults) left
    × (after ≡ keeping (all faults) (emptied before))
