use Rattle.toml_span_lex.proofs.Common.{take, string_bytes}
use Rattle.toml_span_edit.specs.Edited.{EditsMade}
use Rattle.toml_span_edit.proofs.edits.all_made.Given as goal

abbrev pub invariant-loop-index : goal.invariant-loop-index
invariant-loop-index l = EditsMade (take l.index l.edits) l.text (string_bytes l.new)
