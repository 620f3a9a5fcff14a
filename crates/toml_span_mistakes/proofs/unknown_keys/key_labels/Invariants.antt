use Rattle.toml_span_lex.proofs.Common.{◌≡◌, map, take}
use Rattle.toml_span_tree.specs.Diagnostic.{label_content}
use Rattle.toml_span_tree.specs.Error.{marked_keys}
use Rattle.toml_span_mistakes.specs.UnknownKeys.{key_label}
use Rattle.toml_span_mistakes.proofs.unknown_keys.key_labels.Given as goal

abbrev pub invariant-loop-key : goal.invariant-loop-key
invariant-loop-key l = map label_content l.labels.items ≡ map key_label (marked_keys (take l.key-index l.keys))
