use Rattle.toml_span_lex.proofs.Common.{◌≡◌, ◌++◌, string_bytes, flat_map}
use Rattle.toml_span_places.specs.Quoted.{basic_char}
use Rattle.toml_span_places.proofs.quoted.push_basic.Given as goal

abbrev pub invariant-loop-c : goal.invariant-loop-c
invariant-loop-c l = string_bytes l.out ≡ string_bytes l.fn.out ++ flat_map basic_char l.yielded
