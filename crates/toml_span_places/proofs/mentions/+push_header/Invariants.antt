use Rattle.toml_span_lex.proofs.Common.{length}
use Rattle.toml_span_places.proofs.mentions.+push_header.Given as goal

abbrev pub decreases-push_header : goal.decreases-push_header
decreases-push_header l = length l.parts.now
