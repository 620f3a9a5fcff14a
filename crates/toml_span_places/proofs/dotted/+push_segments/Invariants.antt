use Rattle.toml_span_lex.proofs.Common.{length}
use Rattle.toml_span_places.proofs.dotted.+push_segments.Given as goal

abbrev pub decreases-push_segments : goal.decreases-push_segments
decreases-push_segments l = length l.path.now
