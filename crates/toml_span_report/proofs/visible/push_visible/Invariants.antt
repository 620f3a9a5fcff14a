use Rattle.toml_span_lex.proofs.Common.{◌≡◌, ◌++◌, string_bytes, flat_map}
use Rattle.toml_span_report.specs.Visible.{visible_char}
use Rattle.toml_span_report.proofs.visible.push_visible.Given as goal

abbrev pub invariant-loop-c : goal.invariant-loop-c
invariant-loop-c l = string_bytes l.out ≡ string_bytes l.fn.out ++ flat_map visible_char l.yielded
