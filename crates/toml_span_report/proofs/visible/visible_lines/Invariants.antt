use Rattle.toml_span_lex.proofs.Common.{◌≡◌, string_bytes, flat_map}
use Rattle.toml_span_report.specs.Visible.{line_char}
use Rattle.toml_span_report.proofs.visible.visible_lines.Given as goal

abbrev pub invariant-loop-c : goal.invariant-loop-c
invariant-loop-c l = string_bytes l.out ≡ flat_map line_char l.yielded
