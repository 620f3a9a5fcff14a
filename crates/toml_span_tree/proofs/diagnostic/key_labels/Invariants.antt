use Rattle.toml_span_lex.proofs.Common.{◌≡◌, [], map, take}
use Rattle.toml_span_tree.specs.Error.{marked_keys}
use Rattle.toml_span_tree.specs.Diagnostic.{label_content, secondary}
use Rattle.toml_span_tree.proofs.diagnostic.key_labels.Given as goal

abbrev pub invariant-loop-key : goal.invariant-loop-key
invariant-loop-key g l =
    map label_content l.labels.items ≡ map (λ key. secondary l.file key.1 []) (marked_keys (take l.key-index l.keys))
