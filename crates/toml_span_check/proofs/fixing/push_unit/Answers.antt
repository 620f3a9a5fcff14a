use Rattle.toml_span_check.specs.Drafts.{draft}
use Rattle.toml_span_check.specs.Fixing.{work}
use Rattle.toml_span_check.proofs.Fixings.{unit_kept}
use Rattle.toml_span_check.proofs.fixing.push_unit.Goals as goal

pub returns-in_ok-push_kept-in-None : goal.returns-in_ok-push_kept-in-None
returns-in_ok-push_kept-in-None c =
    unit_kept c.args.text.now c.args.pieces.now c.args.statement c.args.unit c.args.way (work c.args.work.now) c.in_ok-fix.field-0 (draft c.push_kept.new.draft)
    c.in_ok-fix.ensures c.in-None.is c.in_ok-push_kept-in-None.ensures
