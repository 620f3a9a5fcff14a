use Rattle.toml_span_lex.proofs.Common.{◌≡◌, ◌++◌, drop, flat_map, map}
use Rattle.toml_span_read.specs.Data.{parsed_section}
use Rattle.toml_span_places.specs.Newer.{newer_forms, section_forms}
use Rattle.toml_span_places.proofs.newer.newer_forms.Given as goal

abbrev pub invariant-loop-section : goal.invariant-loop-section
invariant-loop-section l =
    l.out.items ++ flat_map (section_forms l.text) (map parsed_section (drop l.section-index l.sections))
    ≡ newer_forms l.text (map parsed_section l.sections)
