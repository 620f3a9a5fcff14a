use Rattle.toml_span_lex.proofs.Common.{◌≡◌, ◌++◌, map, take, string_bytes, flat_map}
use Rattle.toml_span_report.specs.Many.{drawn_content, with_blank_line}
use Rattle.toml_span_report.proofs.many.push_texts.Given as goal

abbrev pub invariant-loop-report : goal.invariant-loop-report
invariant-loop-report l =
    string_bytes l.out ≡ string_bytes l.fn.out ++ flat_map with_blank_line (map drawn_content (take l.report-index l.drawn))
