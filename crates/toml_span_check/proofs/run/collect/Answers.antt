use Rattle.toml_span_lex.proofs.Common.{◌∙◌, ◌+◌, ◌++◌, ◌∷◌, ap, sym, ℕ, List, [], String, map, take, drop, string_bytes, Appends-nil, Global, arith, nat_tests, common_steps}
use Rattle.toml_span_check.specs.Run.{read_of}
use Rattle.toml_span_check.proofs.Collecting.{prints-start, names-more, names-split, upto-next, stops-reading, stops-collected}
use Rattle.toml_span_check.proofs.run.collect.Goals as goal

pub loop-name-init : goal.loop-name-init
loop-name-init g c = grind (arith, nat_tests, common_steps, Appends-nil, prints-start)

pub loop-name-preserved : goal.loop-name-preserved
loop-name-preserved g c =
    let l = c.loop-name in
    let text : String Global → List ℕ = λ name. string_bytes name in
    let names = names-more text c.args.names.now l.name-index c.name-item.result c.loop-name-test.true in
    let this = sym (c.as_str-name.ensures.value ∙ ap text c.name-item.is) in
    let one_more = names ∙ ap (λ name. map text (take l.name-index c.args.names.now) ++ name ∷ []) this in
    let stdout = c.in_ok-collect_one.ensures in
    record {
      good = stdout.0;
      upto = upto-next g.S.Schemas.says c.args.question.format c.args.question.task c.args.question.pointer.now _ _ c.as_str-name.result.now
          (g.I.Inputs.log c.args.inputs.now) (g.I.Inputs.log l.inputs) (g.I.Inputs.log c.read.new.self) (read_of c.in_ok-reading.reading)
          (g.O.Sink.contents c.args.out.now) (g.O.Sink.contents l.out) (g.O.Sink.contents c.collect_one.new.out) _ _ stdout.2.0
          l.invariant.upto one_more c.in_ok-reading.ensures stdout.1 stdout.2.1 stdout.2.2;
    }

pub returns-in_err-reading : goal.returns-in_err-reading
returns-in_err-reading g c =
    let l = c.loop-name in
    let text : String Global → List ℕ = λ name. string_bytes name in
    stops-reading g.S.Schemas.says c.args.question.format c.args.question.task c.args.question.pointer.now _ (map text (drop l.name-index c.args.names.now)) _
    (g.I.Inputs.log c.args.inputs.now) (g.I.Inputs.log l.inputs) _ (g.O.Sink.contents c.args.out.now) (g.O.Sink.contents l.out) _ _ c.from_residual.result
    l.invariant.upto (names-split text c.args.names.now l.name-index) l.invariant.good c.from_residual.ensures.1

pub returns-in_err-collect_one : goal.returns-in_err-collect_one
returns-in_err-collect_one g c =
    let l = c.loop-name in
    let text : String Global → List ℕ = λ name. string_bytes name in
    let names = names-more text c.args.names.now l.name-index c.name-item.result c.loop-name-test.true in
    let this = sym (c.as_str-name.ensures.value ∙ ap text c.name-item.is) in
    let one_more = names ∙ ap (λ name. map text (take l.name-index c.args.names.now) ++ name ∷ []) this in
    stops-collected g.S.Schemas.says c.args.question.format c.args.question.task c.args.question.pointer.now _ _ (map text (drop (l.name-index + 1) c.args.names.now)) _ c.as_str-name.result.now
    (g.I.Inputs.log c.args.inputs.now) (g.I.Inputs.log l.inputs) (g.I.Inputs.log c.read.new.self) (read_of c.in_ok-reading.reading)
    (g.O.Sink.contents c.args.out.now) (g.O.Sink.contents l.out) (g.O.Sink.contents c.collect_one.new.out) _ _ _ c.in_err-collect_one.field-0.0 c.from_residual-in_err-collect_one.result
    l.invariant.upto one_more (names-split text c.args.names.now (l.name-index + 1)) c.in_ok-reading.ensures c.in_err-collect_one.ensures c.from_residual-in_err-collect_one.ensures.1
