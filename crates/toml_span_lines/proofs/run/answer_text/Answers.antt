use Rattle.toml_span_lex.proofs.Common.{inl, inr, refl}
use Rattle.toml_span_lines.proofs.TreeShown.{tree-document}
use Rattle.toml_span_lines.proofs.run.answer_text.Goals as goal

pub returns-in_ok-tree_lines-in-Ok : goal.returns-in_ok-tree_lines-in-Ok
returns-in_ok-tree_lines-in-Ok c =
    inl (refl, tree-document c.args.text.now c.args.limit c.in-Ok.root _ c.in-Ok.ensures.answers c.in-Ok.ensures.whole c.in_ok-tree_lines-in-Ok.ensures)

pub returns-in_ok-error_line-in-Err-Fault : goal.returns-in_ok-error_line-in-Err-Fault
returns-in_ok-error_line-in-Err-Fault c =
    let refusal = rw c.in-Err-Fault.field-0-is at c.in-Err-Fault.ensures.answers in
    inr (refl, (c.in-Err-Fault.error, refusal, c.in_ok-error_line-in-Err-Fault.ensures))
