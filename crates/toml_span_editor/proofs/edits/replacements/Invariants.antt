use Rattle.toml_span_lex.proofs.Common.{◌≡◌, map, take}
use Rattle.toml_span_places.specs.Replace.{edit_of}
use Rattle.toml_span_editor.specs.Edits.{edit_content}
use Rattle.toml_span_editor.proofs.edits.replacements.Given as goal

abbrev pub invariant-loop-edit : goal.invariant-loop-edit
invariant-loop-edit l = map edit_of l.list.items ≡ map edit_content (take l.edit-index l.edits)
