use Rattle.toml_span_lex.proofs.Common.{◌≡◌, ◌++◌, drop, map}
use Rattle.toml_span_places.specs.Keys.{key_mention}
use Rattle.toml_span_edit.specs.Kept as spec
use Rattle.toml_span_edit.proofs.setting.keys_at.Given as goal

abbrev pub invariant-loop-place : goal.invariant-loop-place
invariant-loop-place l =
    l.spans.items ++ spec.keys_at (map (λ s. s.now) l.path) (map key_mention (drop l.place-index l.places))
    ≡ spec.keys_at (map (λ s. s.now) l.path) (map key_mention l.places)
