use Rattle.std.proofs.Common.{◌+◌, ◌*◌}
use Rattle.toml_span_schema.proofs.schema.Schema.+explore.Given as goal

abbrev pub decreases-explore : goal.decreases-explore
decreases-explore l = 5 * l.depth

abbrev pub decreases-explore_keyword : goal.decreases-explore_keyword
decreases-explore_keyword l = 5 * l.depth + 4

abbrev pub decreases-explore_parts : goal.decreases-explore_parts
decreases-explore_parts l = 5 * l.depth + 1

abbrev pub decreases-explore_refused : goal.decreases-explore_refused
decreases-explore_refused l = 5 * l.depth + 3

abbrev pub decreases-explore_alternatives : goal.decreases-explore_alternatives
decreases-explore_alternatives l = 5 * l.depth + 2

abbrev pub decreases-explore_valid : goal.decreases-explore_valid
decreases-explore_valid l = 5 * l.depth + 1
