use Rattle.toml_span_lex.proofs.Common.{◌≡◌, [], ◌∷◌, map, take}
use Rattle.toml_span_tree.specs.Error.{marked_keys}
use Rattle.toml_span_tree.specs.Diagnostic.{label_content, primary, secondary}
use Rattle.toml_span_tree.proofs.diagnostic.marked_labels.Given as goal

abbrev pub invariant-loop-place : goal.invariant-loop-place
invariant-loop-place g l =
    map label_content l.labels.items
    ≡ primary l.file l.fn.span [] ∷ map (λ place. secondary l.file place.1 place.0) (marked_keys (take l.place-index l.places))
