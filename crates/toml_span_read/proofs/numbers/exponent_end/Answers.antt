use Rattle.toml_span_lex.proofs.Common.{rules}
use Rattle.toml_span_read.proofs.Places.{after_byte}
use Rattle.toml_span_read.proofs.numbers.exponent_end.Goals as goal

pub run_end-requires : goal.run_end-requires
run_end-requires c = after_byte c.args.text.now c.args.end c.utf8.text (search rules) (search rules)
