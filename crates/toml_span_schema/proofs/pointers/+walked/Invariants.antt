use Rattle.std.proofs.Common.{length}
use Rattle.toml_span_schema.proofs.pointers.+walked.Given as goal

abbrev pub decreases-walked : goal.decreases-walked
decreases-walked l = length l.steps.now
