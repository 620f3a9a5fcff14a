use Rattle.toml_span_typed.proofs.Whole.{placed_whole}
use Rattle.toml_span_typed.proofs.de_helpers.table_helper.TableHelper.take_placed.Goals as goal

pub returns-in-Some-clause-good : goal.returns-in-Some-clause-good
returns-in-Some-clause-good c =
    let takes = rw c.in-Some.is at c.in_ok-key.ensures.answer in
    placed_whole c.args.name.now _ _ c.requires takes.0.1
