use Rattle.toml_span_lex.proofs.Common.{◌≡◌, ◌∙◌, true, arith, nat_tests, common_steps}
use Rattle.toml_span_check.specs.Safety.{may_fix}
use Rattle.toml_span_check.proofs.Fixings.{fix_checked}
use Rattle.toml_span_check.proofs.fixing.fix_of.Goals as goal

pub returns-in-Some : goal.returns-in-Some
returns-in-Some c =
    let may : may_fix c.args.text.now c.args.pieces.now c.args.statement c.args.way ≡ true = grind (arith, nat_tests, common_steps) in
    fix_checked c.args.text.now c.args.pieces.now c.args.statement c.args.way c.in-Ok.old.now c.own_pieces.result.now c.may_head-heads.result
    c.in_ok-new.field-0 c.in-Some.new c.checked.result (c.in-Ok.ensures.cases.0 ∙ c.own_bytes.ensures) c.own_pieces.ensures c.may_head-heads.ensures
    c.in_ok-new.ensures c.in-Some.is c.checked.ensures may
