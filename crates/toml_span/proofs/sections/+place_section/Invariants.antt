use Rattle.toml_span_lex.proofs.Common.{◌+◌, ◌*◌, length}
use Rattle.toml_span.proofs.sections.+place_section.Given as goal

abbrev pub decreases-place_section : goal.decreases-place_section
decreases-place_section l = 4 * length l.parts.now

abbrev pub decreases-pass_child : goal.decreases-pass_child
decreases-pass_child l = 4 * length l.rest.now + 3

abbrev pub decreases-pass_header : goal.decreases-pass_header
decreases-pass_header l = 4 * length l.rest.now + 2

abbrev pub decreases-descend : goal.decreases-descend
decreases-descend l = 4 * length l.rest.now + 1
