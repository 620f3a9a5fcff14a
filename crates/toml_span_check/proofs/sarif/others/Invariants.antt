use Rattle.toml_span_lex.proofs.Common.{◌≡◌, map, take, string_bytes, flat_map}
use Rattle.toml_span_tree.specs.Diagnostic.{label_content}
use Rattle.toml_span_check.specs.Sarif.{other}
use Rattle.toml_span_check.proofs.sarif.others.Given as goal

abbrev pub invariant-loop-label : goal.invariant-loop-label
invariant-loop-label l = string_bytes l.out ≡ flat_map (other l.name l.text) (map label_content (take l.label-index l.labels))
