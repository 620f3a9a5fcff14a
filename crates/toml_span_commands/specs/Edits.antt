-- The edits that arguments describe.
use Rattle.std.specs.Borrow.{Bor}
use Rattle.std.specs.Prelude.{◌≡◌, ℕ, Bool, true, false, List, [], ◌∷◌, Option, Some, None, option_map, string_bytes, ⊤}
use Rattle.toml_span_commands.specs.declared.changes.Action.{Action}
use Rattle.toml_span_commands.specs.declared.changes.Action.TheVariants as actions
use Rattle.toml_span_commands.specs.declared.changes.PathEdit.{PathEdit}
use Rattle.toml_span_commands.specs.declared.commands.Command.{Command}
use Rattle.toml_span_commands.specs.declared.commands.Command.TheVariants as commands
use Rattle.toml_span_commands.specs.declared.making.Prepared.{Prepared}
use Rattle.toml_span_edit.specs.declared.edits.Change.{Change}
use Rattle.toml_span_edit.specs.declared.edits.Change.TheVariants as changes
use Rattle.toml_span_edit.specs.declared.edits.Edit.{Edit}

-- what a command does with the arguments after the path, if their number is right
abbrev pub action_of : Command → List (Bor (List ℕ)) → Option Action
action_of commands.Set (value ∷ []) = Some (actions.Set value)
action_of commands.Rename (name ∷ []) = Some (actions.Rename name)
action_of commands.Remove [] = Some actions.Remove
action_of commands.Add (key ∷ value ∷ []) = Some (actions.Add key value)
action_of commands.Append (value ∷ []) = Some (actions.Append value)
action_of commands.Insert (value ∷ []) = Some (actions.Insert value)
action_of commands.Move (to ∷ []) = Some (actions.Move to)
action_of other words = None

-- the edit that a command makes, by its arguments after the file: a path, and those of its action
abbrev pub change_of : Command → List (Bor (List ℕ)) → Option PathEdit
change_of command [] = None
change_of command (path ∷ rest) =
    option_map (λ action. record { path = path; action = action }) (action_of command rest)

-- The change is the one of this action, forced or not, and has this value or name or, for a move, this target.
abbrev pub IsChange : Action → Bool → List ℕ → List (Bor (List ℕ)) → Change → Type 0
IsChange (actions.Set x) false value target (changes.SetOrAdd v) = v.now ≡ value
IsChange (actions.Set x) true value target (changes.Replace v) = v.now ≡ value
IsChange (actions.Rename x) forced value target (changes.Rename v) = v.now ≡ value
IsChange actions.Remove forced value target changes.Remove = ⊤
IsChange (actions.Add key x) forced value target (changes.Add v) = v.now ≡ value
IsChange (actions.Append x) forced value target (changes.Append v) = v.now ≡ value
IsChange (actions.Insert x) forced value target (changes.Insert v) = v.now ≡ value
IsChange (actions.Move x) forced value target (changes.MoveTo to) = to.now ≡ target
IsChange action forced value target change = ⊥

-- the edit that is prepared
abbrev pub IsEditOf : Prepared → Edit → Type 0
IsEditOf p e =
    (e.path.now ≡ p.path.items) × IsChange p.action p.is_forced (string_bytes p.value) p.target.items e.change
