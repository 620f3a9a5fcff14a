-- Clones of lists have the same contents.
use Rattle.toml_span_lex.proofs.Common.{arith, common_steps, ◌≡◌, List, [], ◌∷◌, map, String, string_bytes, AllZip, Global}
use Rattle.toml_span_lex.specs.declared.span.Span.{Span}
use Rattle.toml_span_tree.specs.Error.{marked_keys}

pub names_cloned : (names copy : List (String Global)) → AllZip (λ s t. string_bytes t ≡ string_bytes s) names copy
    → map string_bytes copy ≡ map string_bytes names
names_cloned [] copy h = grind (arith, common_steps)
names_cloned (s ∷ ss) copy h = grind (arith, common_steps, names_cloned ss)

pub keys_cloned : (keys copy : List (String Global × Span)) → AllZip (λ s t. (string_bytes t.0 ≡ string_bytes s.0) × (t.1 ≡ s.1)) keys copy
    → marked_keys copy ≡ marked_keys keys
keys_cloned [] copy h = grind (arith, common_steps)
keys_cloned (s ∷ ss) copy h = grind (arith, common_steps, keys_cloned ss)
