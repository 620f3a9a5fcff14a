use Rattle.toml_span_lex.proofs.Common.{length}
use Rattle.toml_span_edit.proofs.reach.+room.Given as goal

abbrev pub decreases-room : goal.decreases-room
decreases-room l = length l.path.now
