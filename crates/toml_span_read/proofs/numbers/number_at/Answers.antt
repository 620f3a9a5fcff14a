use Rattle.toml_span_lex.proofs.Common.{rules}
use Rattle.toml_span_read.proofs.Places.{after_byte}
use Rattle.toml_span_read.proofs.numbers.number_at.Goals as goal

pub run_end-requires-2 : goal.run_end-requires-2
run_end-requires-2 c = after_byte c.args.text.now c.args.at c.utf8.text (search rules) (search rules)
