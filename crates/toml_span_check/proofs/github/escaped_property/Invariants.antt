use Rattle.toml_span_lex.proofs.Common.{◌≡◌, string_bytes, flat_map}
use Rattle.toml_span_check.specs.Github.{property_char}
use Rattle.toml_span_check.proofs.github.escaped_property.Given as goal

abbrev pub invariant-loop-c : goal.invariant-loop-c
invariant-loop-c l = string_bytes l.out ≡ flat_map property_char l.yielded
