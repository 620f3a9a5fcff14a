use Rattle.toml_span_lex.proofs.Common.{ap, arith, nat_tests, common_steps}
use Rattle.toml_span_check.specs.Run.{read_of}
use Rattle.toml_span_check.proofs.Judged.{stops-one, stops-count}
use Rattle.toml_span_check.proofs.run.collect_one.Goals as goal

pub returns-in_err-found-in-Ok : goal.returns-in_err-found-in-Ok
returns-in_err-found-in-Ok g c =
    stops-one g.S.Schemas.says c.args.question.format c.args.question.task c.args.question.pointer.now c.args.name.now c.in-Ok.bytes.items _ _ _ _ _ _ _ _ c.in_err-found-in-Ok.field-0.0 c.from_residual.result
    (ap read_of c.in-Ok.is) c.as_slice.ensures.value c.in_err-found-in-Ok.ensures c.from_residual.ensures.1

pub returns-in_err-push_str-in-Ok : goal.returns-in_err-push_str-in-Ok
returns-in_err-push_str-in-Ok g c =
    stops-count g.S.Schemas.says c.args.question.format c.args.question.task c.args.question.pointer.now c.args.name.now c.in-Ok.bytes.items _ _ c.in_ok-found-in-Ok.found _ _ _ _ _ _ c.from_residual-in_err-push_str-in-Ok.result
    (ap read_of c.in-Ok.is) c.as_slice.ensures.value c.in_ok-found-in-Ok.ensures c.from_residual-in_err-push_str-in-Ok.ensures.1

pub returns-in_err-count-in-Ok : goal.returns-in_err-count-in-Ok
returns-in_err-count-in-Ok g c =
    stops-count g.S.Schemas.says c.args.question.format c.args.question.task c.args.question.pointer.now c.args.name.now c.in-Ok.bytes.items _ _ c.in_ok-found-in-Ok.found _ _ _ _ _ _ c.from_residual-in_err-count-in-Ok.result
    (ap read_of c.in-Ok.is) c.as_slice.ensures.value c.in_ok-found-in-Ok.ensures c.from_residual-in_err-count-in-Ok.ensures.1

pub returns-in_ok-count-in-Ok : goal.returns-in_ok-count-in-Ok
returns-in_ok-count-in-Ok g c = grind (arith, nat_tests, common_steps)
