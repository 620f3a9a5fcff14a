use Rattle.toml_span_lex.proofs.Common.{◌≡◌, ◌++◌, string_bytes, flat_map}
use Rattle.toml_span_commands.specs.Shell.{shell_char}
use Rattle.toml_span_commands.proofs.schema.push_shell_chars.Given as goal

abbrev pub invariant-loop-c : goal.invariant-loop-c
invariant-loop-c l = string_bytes l.out ≡ string_bytes l.fn.out ++ flat_map shell_char l.yielded
