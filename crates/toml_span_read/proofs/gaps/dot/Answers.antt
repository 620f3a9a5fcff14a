use Rattle.toml_span_lex.proofs.Common.{rules}
use Rattle.toml_span_read.proofs.Places.{after_byte}
use Rattle.toml_span_read.proofs.gaps.dot.Goals as goal

pub blanks_end-requires : goal.blanks_end-requires
blanks_end-requires c = after_byte c.args.text.now c.blanks_end-end.result c.utf8.text (search rules) (search rules)
