use Rattle.toml_span_read.proofs.Places.{further_byte}
use Rattle.toml_span_read.proofs.gaps.after_byte.Goals as goal

pub returns-clause-further : goal.returns-clause-further
returns-clause-further c = further_byte c.args.text.now c.args.at c.utf8.text c.requires.some c.requires.ascii
