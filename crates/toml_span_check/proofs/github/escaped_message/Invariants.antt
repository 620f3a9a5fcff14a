use Rattle.toml_span_lex.proofs.Common.{◌≡◌, string_bytes, flat_map}
use Rattle.toml_span_check.specs.Github.{message_char}
use Rattle.toml_span_check.proofs.github.escaped_message.Given as goal

abbrev pub invariant-loop-c : goal.invariant-loop-c
invariant-loop-c l = string_bytes l.out ≡ flat_map message_char l.yielded
