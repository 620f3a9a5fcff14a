use Rattle.toml_span_lex.proofs.Common.{sym}
use Rattle.toml_span_typed.proofs.Whole.{placed_whole}
use Rattle.toml_span_typed.proofs.de_helpers.table_helper.TableHelper.pass.Goals as goal

pub returns-in-Some-clause-good : goal.returns-in-Some-clause-good
returns-in-Some-clause-good c =
    placed_whole c.args.name.now _ _ c.requires (sym (rw c.in-Some.is at c.remove.ensures.entry))
