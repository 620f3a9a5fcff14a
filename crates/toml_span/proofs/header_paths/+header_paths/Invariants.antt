use Rattle.toml_span_lex.proofs.Common.{◌+◌, ◌*◌, length}
use Rattle.toml_span.proofs.header_paths.+header_paths.Given as goal

abbrev pub decreases-place_table : goal.decreases-place_table
decreases-place_table l = 5 * length l.parts.now

abbrev pub decreases-pass_value : goal.decreases-pass_value
decreases-pass_value l = 5 * length l.rest.now + 4

abbrev pub decreases-pass_array : goal.decreases-pass_array
decreases-pass_array l = 5 * length l.rest.now + 3

abbrev pub decreases-pass_element : goal.decreases-pass_element
decreases-pass_element l = 5 * length l.rest.now + 2

abbrev pub decreases-pass_table : goal.decreases-pass_table
decreases-pass_table l = 5 * length l.rest.now + 1

abbrev pub decreases-new_value : goal.decreases-new_value
decreases-new_value l = 5 * length l.rest.now + 1
