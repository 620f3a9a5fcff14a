use Rattle.toml_span_lex.proofs.Common.{◌≡◌, ◌++◌, map}
use Rattle.std.specs.Prelude.{filter_map}
use Rattle.toml_span_read.specs.Data.{parsed_section}
use Rattle.toml_span_places.specs.Sections.{document_sections, section_of, section_mention}
use Rattle.toml_span_places.specs.Mentions.{mentioned}
use Rattle.toml_span_places.proofs.sections.section_places.Given as goal

abbrev pub invariant-loop-mention : goal.invariant-loop-mention
invariant-loop-mention l =
    map section_mention l.out.items ++ filter_map (section_of l.text) (map mentioned l.mention-iterator.rest.items)
    ≡ document_sections l.text (map parsed_section l.sections)
