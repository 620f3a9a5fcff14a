use Rattle.toml_span_lex.proofs.Common.{◌≡◌, drop, map}
use Rattle.toml_span_places.specs.Sections.{section_mention}
use Rattle.toml_span_edit.specs.Kept as spec
use Rattle.toml_span_edit.proofs.reach.with_sections.Given as goal

abbrev pub invariant-loop-place : goal.invariant-loop-place
invariant-loop-place l =
    spec.with_sections l.text (map (λ s. s.now) l.path) l.fn.span (map section_mention l.places)
    ≡ spec.with_sections l.text (map (λ s. s.now) l.path) l.around (map section_mention (drop l.place-index l.places))
