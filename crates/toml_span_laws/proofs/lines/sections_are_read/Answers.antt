use Rattle.toml_span_lex.proofs.Common.{map}
use Rattle.toml_span_read.proofs.InsideLemmas.{section_inside, first_sections_inside}
use Rattle.toml_span_read.proofs.ReadSound.{section_sound, first_sound}
use Rattle.toml_span_read.specs.Data.{parsed_section}
use Rattle.toml_span_laws.proofs.DepthLaws.{section_within, first_sections_within}
use Rattle.toml_span_laws.proofs.lines.sections_are_read.Goals as goal

pub returns-clause-section : goal.returns-clause-section
returns-clause-section c = λ text limit i j s here h.
    let spelled = section_sound (parsed_section s) text limit i j here h in
    (spelled, section_within s text limit i j spelled, section_inside s text limit i j spelled)

pub returns-clause-first : goal.returns-clause-first
returns-clause-first c = λ text limit j ss h.
    let (start, es, place, spelled, is, ends) = first_sound (map parsed_section ss) text limit j h in
    (start, es, place, spelled, is, first_sections_within ss es text limit start j spelled is, first_sections_inside ss es text limit start j spelled is)
