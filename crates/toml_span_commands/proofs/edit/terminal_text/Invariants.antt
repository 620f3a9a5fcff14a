use Rattle.toml_span_lex.proofs.Common.{◌≡◌, string_bytes, flat_map}
use Rattle.toml_span_commands.specs.Escaped.{kept_char}
use Rattle.toml_span_commands.proofs.edit.terminal_text.Given as goal

abbrev pub invariant-loop-c : goal.invariant-loop-c
invariant-loop-c l = string_bytes l.out ≡ flat_map kept_char l.yielded
