use Rattle.std.proofs.Common.{◌+◌, ◌*◌}
use Rattle.toml_span_schema.proofs.read.+to_toml.Given as goal

abbrev pub decreases-to_toml : goal.decreases-to_toml
decreases-to_toml l = 2 * l.depth

abbrev pub decreases-elements : goal.decreases-elements
decreases-elements l = 2 * l.depth + 1

abbrev pub decreases-entries : goal.decreases-entries
decreases-entries l = 2 * l.depth + 1
