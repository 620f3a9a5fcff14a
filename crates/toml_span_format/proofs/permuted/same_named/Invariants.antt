use Rattle.toml_span_lex.proofs.Common.{◌≡◌, map, take}
use Rattle.toml_span_read.specs.Data.{parsed_assignment}
use Rattle.toml_span_format.specs.Same.{bare_assignment}
use Rattle.toml_span_format.proofs.permuted.same_named.Given as goal

abbrev pub invariant-loop-i : goal.invariant-loop-i
invariant-loop-i l = map bare_assignment (map (λ n. parsed_assignment n.assignment.now) (take l.i l.a)) ≡ map bare_assignment (map (λ n. parsed_assignment n.assignment.now) (take l.i l.b))
