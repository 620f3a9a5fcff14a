use Rattle.toml_span_lex.proofs.Common.{◌≡◌, ◌++◌, map, drop, None, string_bytes}
use Rattle.toml_span_report.specs.Rendering.{source_lines}
use Rattle.toml_span_report.specs.Strips.{strip_content}
use Rattle.toml_span_report.proofs.rendering.push_strips.Given as goal

abbrev pub invariant-loop-i : goal.invariant-loop-i
invariant-loop-i l =
    string_bytes l.out
    ++ source_lines l.frame.style l.frame.severity l.frame.width l.above (map strip_content (drop l.i l.strips))
    ≡ string_bytes l.fn.out ++ source_lines l.frame.style l.frame.severity l.frame.width None (map strip_content l.strips)
