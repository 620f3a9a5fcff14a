use Rattle.toml_span_lex.proofs.Common.{map, take, string_bytes}
use Rattle.toml_span_check.specs.Run.{FindsAll}
use Rattle.toml_span_check.proofs.run.find_all.Given as goal

abbrev pub invariant-loop-name : goal.invariant-loop-name
invariant-loop-name g l =
    FindsAll (map (λ pattern. pattern.now) l.excludes) (map (λ name. name.now) (take l.name-index l.names)) (g.I.Inputs.log l.fn.inputs) (g.I.Inputs.log l.inputs)
    (map (λ file. string_bytes file) l.files.items)
