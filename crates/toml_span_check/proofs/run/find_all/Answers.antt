use Rattle.toml_span_lex.proofs.Common.{ap, map, string_bytes, map-append, arith, nat_tests, common_steps}
use Rattle.toml_span_check.proofs.Collecting.{finds-none, finds-more, names-more}
use Rattle.toml_span_check.proofs.run.find_all.Goals as goal

pub loop-name-init : goal.loop-name-init
loop-name-init g c = finds-none _ (g.I.Inputs.log c.args.inputs.now) _ (ap (map (λ file. string_bytes file)) c.new-files.ensures.items)

pub loop-name-preserved : goal.loop-name-preserved
loop-name-preserved g c = grind (arith, nat_tests, common_steps, finds-more, map-append, names-more)
