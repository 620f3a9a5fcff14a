use Rattle.toml_span_lex.proofs.Common.{◌≡◌, map, take}
use Rattle.toml_span_read.specs.Data.{parsed_value, parsed_assignment}
use Rattle.toml_span_format.specs.Same.{bare_value, bare_assignment}
use Rattle.toml_span_format.proofs.same.+same_value.Given as goal

abbrev pub invariant-same_values-loop-i : goal.invariant-same_values-loop-i
invariant-same_values-loop-i l =
    map bare_value (map parsed_value (take l.i l.a)) ≡ map bare_value (map parsed_value (take l.i l.b))

abbrev pub invariant-same_pairs-loop-i : goal.invariant-same_pairs-loop-i
invariant-same_pairs-loop-i l =
    map bare_assignment (map parsed_assignment (take l.i l.a)) ≡ map bare_assignment (map parsed_assignment (take l.i l.b))
