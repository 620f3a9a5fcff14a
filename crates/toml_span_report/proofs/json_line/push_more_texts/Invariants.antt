use Rattle.toml_span_lex.proofs.Common.{◌≡◌, ◌++◌, codes, map, take, string_bytes, flat_map}
use Rattle.toml_span_report.specs.JsonLine.{clipped_json}
use Rattle.toml_span_report.proofs.json_line.push_more_texts.Given as goal

abbrev pub invariant-loop-text : goal.invariant-loop-text
invariant-loop-text l =
    string_bytes l.out
    ≡ string_bytes l.fn.out ++ flat_map (λ text. codes "," ++ clipped_json text) (map string_bytes (take l.text-index l.texts))
