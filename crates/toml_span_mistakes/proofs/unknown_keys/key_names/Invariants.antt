use Rattle.toml_span_lex.proofs.Common.{◌≡◌, map, take}
use Rattle.toml_span_tree.specs.Error.{marked_keys}
use Rattle.toml_span_mistakes.proofs.unknown_keys.key_names.Given as goal

abbrev pub invariant-loop-key : goal.invariant-loop-key
invariant-loop-key l =
    map (λ name. name.now) l.names.items ≡ map (λ key. key.0) (marked_keys (take l.key-index l.keys))
