use Rattle.toml_span_lex.proofs.Common.{List, subst}
use Rattle.toml_span_edit.specs.Refused.{IsFinished}
use Rattle.toml_span_edit.specs.declared.edits.Edit.{Edit}
use Rattle.toml_span_edit.proofs.Refusals.{finished}
use Rattle.toml_span_edit.proofs.edits.Edits.finish.Goals as goal

pub returns : goal.returns
returns c =
    subst (λ (edits : List Edit). IsFinished edits c.args.self.text.now c.all_made.result) c.as_slice.ensures.value
    (finished _ _ c.all_made.result c.all_made.ensures.made c.all_made.ensures.refused)
