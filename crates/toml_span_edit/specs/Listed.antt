-- What appending an edit to the list of edits does.
use Rattle.std.specs.Prelude.{◌≡◌, [], ◌∷◌, ◌++◌, Result, Ok, Err}
use Rattle.std.specs.declared.alloc.AllocError.{AllocError}
use Rattle.toml_span_edit.specs.declared.edits.Edit.{Edit}
use Rattle.toml_span_edit.specs.declared.edits.Edits.{Edits}

-- The edit is appended to the list. If an allocation fails, the list is unchanged. The text is the same in both cases.
abbrev pub Pushed : Edit → Edits → Result Unit AllocError → Edits → Type 0
Pushed e old (Ok u) new = (new.list.items ≡ old.list.items ++ e ∷ []) × (new.text ≡ old.text)
Pushed e old (Err x) new = (new.list.items ≡ old.list.items) × (new.text ≡ old.text)
