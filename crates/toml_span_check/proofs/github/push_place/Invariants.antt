use Rattle.toml_span_lex.proofs.Common.{◌≡◌, drop, map, string_bytes}
use Rattle.toml_span_tree.specs.Diagnostic.{label_content}
use Rattle.toml_span_check.specs.Github.{primary_region}
use Rattle.toml_span_check.proofs.github.push_place.Given as goal

abbrev pub invariant-loop-label : goal.invariant-loop-label
invariant-loop-label l = record {
  same : string_bytes l.out ≡ string_bytes l.fn.out;
  rest : primary_region l.text (map label_content (drop l.label-index l.labels)) ≡ primary_region l.text (map label_content l.labels);
}
