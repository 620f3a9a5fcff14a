use Rattle.toml_span_lex.proofs.Common.{◌≡◌, drop, fold, map, string_bytes}
use Rattle.toml_span_tree.specs.Diagnostic.{label_content}
use Rattle.toml_span_editor.specs.Diagnostics.{with_label}
use Rattle.toml_span_editor.proofs.diagnostics.push_labels.Given as goal

abbrev pub invariant-loop-label : goal.invariant-loop-label
invariant-loop-label l =
    fold (with_label l.message) (string_bytes l.out) (map label_content (drop l.label-index l.labels))
    ≡ fold (with_label l.message) (string_bytes l.fn.out) (map label_content l.labels)
