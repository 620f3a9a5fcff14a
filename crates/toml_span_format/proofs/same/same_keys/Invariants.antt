use Rattle.toml_span_lex.proofs.Common.{◌≡◌, map, take}
use Rattle.toml_span_read.specs.Data.{simple_key}
use Rattle.toml_span_format.specs.Same.{bare_key}
use Rattle.toml_span_format.proofs.same.same_keys.Given as goal

abbrev pub invariant-loop-i : goal.invariant-loop-i
invariant-loop-i l = map bare_key (map simple_key (take l.i l.a)) ≡ map bare_key (map simple_key (take l.i l.b))
