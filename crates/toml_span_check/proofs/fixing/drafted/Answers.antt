use Rattle.toml_span_lex.proofs.Common.{arith, take_rest}
use Rattle.toml_span_check.specs.Drafts.{draft}
use Rattle.toml_span_check.specs.Fixing.{work}
use Rattle.toml_span_check.proofs.Fixings.{drafts_more, drafts_none}
use Rattle.toml_span_check.proofs.fixing.drafted.Goals as goal

pub loop-at-init : goal.loop-at-init
loop-at-init c = drafts_none c.args.text.now c.args.pieces.now c.args.statements.now c.args.way (draft c.empty.result) c.empty.ensures

pub loop-at-preserved : goal.loop-at-preserved
loop-at-preserved c =
    drafts_more c.args.text.now c.args.pieces.now c.args.statements.now _ c.args.way c.loop-at.at _ (work c.loop-at.work) (work c.push_fixed.new.work) (omega arith)
    c.loop-at.invariant (take_rest c.args.statements.now c.loop-at.at) c.in_ok-push_fixed.ensures
