use Rattle.toml_span_lex.proofs.Common.{◌≡◌, map, take}
use Rattle.toml_span_tree.specs.Diagnostic.{label_content}
use Rattle.toml_span_report.specs.Strips.{all_strips, strip_content}
use Rattle.toml_span_report.proofs.strips.all_strips.Given as goal

abbrev pub invariant-loop-label : goal.invariant-loop-label
invariant-loop-label g l = map strip_content l.strips.items ≡ all_strips l.text (map label_content (take l.label-index l.labels))
