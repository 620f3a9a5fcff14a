use Rattle.toml_span_lex.proofs.Common.{◌≡◌, false, map, take, string_bytes}
use Rattle.toml_span_check.proofs.Collecting.{Upto}
use Rattle.toml_span_check.proofs.run.collect.Given as goal

abbrev pub invariant-loop-name : goal.invariant-loop-name
invariant-loop-name g l = record {
  good : g.O.Sink.failed l.out ≡ false;
  upto : Upto g.S.Schemas.says l.question.format l.question.task l.question.pointer.now (map (λ name. string_bytes name) (take l.name-index l.names)) (g.I.Inputs.log l.fn.inputs) (g.I.Inputs.log l.inputs)
      (g.O.Sink.contents l.fn.out) (g.O.Sink.contents l.out) (l.collected.held.items, string_bytes l.collected.errors, l.collected.status, l.collected.wrong);
}
