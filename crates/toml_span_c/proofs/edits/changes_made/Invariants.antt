use Rattle.toml_span_lex.proofs.Common.{take, string_bytes}
use Rattle.toml_span_c.specs.Edits.{ChangesMade}
use Rattle.toml_span_c.proofs.edits.changes_made.Given as goal

abbrev pub invariant-loop-index : goal.invariant-loop-index
invariant-loop-index l = ChangesMade (take l.index l.changes) l.fn.text (string_bytes l.new)
