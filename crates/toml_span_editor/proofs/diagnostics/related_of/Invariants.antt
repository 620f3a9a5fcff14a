use Rattle.toml_span_lex.proofs.Common.{◌≡◌, ◌++◌, drop, map}
use Rattle.toml_span_tree.specs.Diagnostic.{label_content}
use Rattle.toml_span_editor.specs.Diagnostics.{related_content, related_of}
use Rattle.toml_span_editor.proofs.diagnostics.related_of.Given as goal

abbrev pub invariant-loop-label : goal.invariant-loop-label
invariant-loop-label l =
    map related_content l.related.items
    ++ related_of l.table.encoding l.table.text.now (map label_content (drop l.label-index l.labels))
    ≡ related_of l.table.encoding l.table.text.now (map label_content l.labels)
