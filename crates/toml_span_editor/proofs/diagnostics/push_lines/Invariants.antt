use Rattle.toml_span_lex.proofs.Common.{◌≡◌, drop, fold, map, string_bytes}
use Rattle.toml_span_editor.specs.Diagnostics.{with_line}
use Rattle.toml_span_editor.proofs.diagnostics.push_lines.Given as goal

abbrev pub invariant-loop-line : goal.invariant-loop-line
invariant-loop-line l =
    fold (with_line l.front) (string_bytes l.out) (map string_bytes (drop l.line-index l.lines))
    ≡ fold (with_line l.front) (string_bytes l.fn.out) (map string_bytes l.lines)
