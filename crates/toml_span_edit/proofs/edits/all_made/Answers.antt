use Rattle.toml_span_lex.proofs.Common.{ℕ, List, get_or, string_bytes, subst}
use Rattle.toml_span_edit.specs.Edited.{EditMade}
use Rattle.toml_span_edit.specs.Refused.{IsRefusedAt}
use Rattle.toml_span_edit.proofs.Refusals.{edits_refused}
use Rattle.toml_span_edit.proofs.Steps.{edits_next, no_edit}
use Rattle.toml_span_edit.proofs.edits.all_made.Goals as goal

pub loop-index-preserved : goal.loop-index-preserved
loop-index-preserved c =
    let edits = c.args.edits.now in
    let index = c.loop-index.index in
    let after = string_bytes c.in-Ok-edit_made.next in
    edits_next edits index no_edit c.args.text.now (string_bytes c.loop-index.new) after
    c.loop-index-test.true c.loop-index.invariant
    (subst (λ (text : List ℕ). EditMade (get_or edits index no_edit) text after) c.as_str.ensures.value
    c.in-Ok-edit_made.ensures.made)

pub returns-in-Err-edit_made-clause-refused : goal.returns-in-Err-edit_made-clause-refused
returns-in-Err-edit_made-clause-refused c =
    let edits = c.args.edits.now in
    let index = c.loop-index.index in
    let stop = c.in-Err-edit_made.stop in
    edits_refused edits index no_edit c.args.text.now (string_bytes c.loop-index.new) stop c.loop-index-test.true
    c.loop-index.invariant
    (subst (λ (text : List ℕ). IsRefusedAt index (get_or edits index no_edit) text stop) c.as_str.ensures.value
    c.in-Err-edit_made.ensures.refused)
