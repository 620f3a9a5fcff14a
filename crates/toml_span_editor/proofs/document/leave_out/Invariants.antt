use Rattle.toml_span_lex.proofs.Common.{◌≡◌, ◌++◌, drop, map, take}
use Rattle.toml_span_editor.specs.Documents.{left_out}
use Rattle.toml_span_editor.proofs.document.leave_out.Given as goal

abbrev pub invariant-loop-index : goal.invariant-loop-index
invariant-loop-index l =
    l.parts.items ≡ map (left_out l.at l.is_rest) (take l.index l.fn.parts.items) ++ drop l.index l.fn.parts.items
