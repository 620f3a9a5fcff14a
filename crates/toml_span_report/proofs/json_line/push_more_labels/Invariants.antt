use Rattle.toml_span_lex.proofs.Common.{◌≡◌, ◌++◌, codes, map, take, string_bytes, flat_map}
use Rattle.toml_span_tree.specs.Diagnostic.{label_content}
use Rattle.toml_span_report.specs.JsonLine.{label_json}
use Rattle.toml_span_report.proofs.json_line.push_more_labels.Given as goal

abbrev pub invariant-loop-label : goal.invariant-loop-label
invariant-loop-label l =
    string_bytes l.out
    ≡ string_bytes l.fn.out
    ++ flat_map (λ mark. codes "," ++ label_json l.text mark) (map label_content (take l.label-index l.labels))
