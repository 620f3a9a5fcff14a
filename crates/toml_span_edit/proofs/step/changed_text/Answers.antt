use Rattle.toml_span_lex.proofs.Common.{sym}
use Rattle.toml_span_tree.specs.Value.{view}
use Rattle.toml_span_edit.proofs.Refusals.{move_refused}
use Rattle.toml_span_edit.proofs.Steps.{edit_moved}
use Rattle.toml_span_edit.proofs.step.changed_text.Goals as goal

pub returns-in-Some-clause-made : goal.returns-in-Some-clause-made
returns-in-Some-clause-made c =
    let moved = c.moved.ensures in
    edit_moved c.args.edit c.in-MoveTo.target (view c.in-Some.value.now) c.args.old.tree.now c.args.old.text.now c.in-MoveTo.is
    c.requires (sym c.in-Some.ensures) c.moved.result moved.moved moved.kept moved.none

pub returns-in-Some-clause-refused : goal.returns-in-Some-clause-refused
returns-in-Some-clause-refused c =
    move_refused c.args.edit c.in-MoveTo.target c.args.old.tree.now c.args.old.text.now c.in-MoveTo.is c.requires c.moved.result
    c.moved.ensures.refused
