use Rattle.toml_span_lex.proofs.Common.{arith}
use Rattle.toml_span_editor.specs.Documents.{left_out}
use Rattle.toml_span_editor.proofs.PartLemmas.{set_one}
use Rattle.toml_span_editor.proofs.document.leave_out.Goals as goal

pub loop-index-preserved : goal.loop-index-preserved
loop-index-preserved c =
    set_one (left_out c.args.at c.args.is_rest) c.args.parts.now.items c.loop-index.parts.items c.loop-index.index _ _ (omega arith) c.loop-index.invariant c.index.ensures c.left_out.ensures
