use Rattle.toml_span_lex.proofs.Common.{◌≡◌, drop, map}
use Rattle.toml_span_tree.specs.Diagnostic.{label_content}
use Rattle.toml_span_editor.specs.Labels.{main_span}
use Rattle.toml_span_editor.proofs.spans.main_span.Given as goal

abbrev pub invariant-loop-label : goal.invariant-loop-label
invariant-loop-label l =
    main_span (map label_content (drop l.label-index l.labels)) ≡ main_span (map label_content l.labels)
