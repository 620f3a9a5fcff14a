use Rattle.toml_span_check.proofs.Fixings.{can_fix, cannot_fix}
use Rattle.toml_span_check.proofs.fixing.is_fixable.Goals as goal
use Rattle.toml_span_check.proofs.fixing.is_fixable.Goals.{in-Some, in-None}

pub returns : goal.returns
returns c =
    elim c.match-branch-3.branch [
      | in-Some w ↦
          can_fix c.args.text.now c.args.pieces.now c.args.statements.now c.args.statement c.in_ok-unit.unit c.args.level c.way_of-way.result c.in_ok-fix_of.field-0 w.in-Some.field-0 c.match-branch-3.result
          c.way_of-way.ensures c.in_ok-unit.ensures c.in_ok-fix_of.ensures w.in-Some.is w.result-is
      | in-None w ↦
          cannot_fix c.args.text.now c.args.pieces.now c.args.statements.now c.args.statement c.in_ok-unit.unit c.args.level c.way_of-way.result c.in_ok-fix_of.field-0 c.match-branch-3.result
          c.way_of-way.ensures c.in_ok-unit.ensures c.in_ok-fix_of.ensures w.in-None.is w.result-is
    ]
