use Rattle.toml_span_lex.proofs.Common.{length}
use Rattle.toml_span_places.proofs.mentions.+push_parts.Given as goal

abbrev pub decreases-push_parts : goal.decreases-push_parts
decreases-push_parts l = length l.inner.now
