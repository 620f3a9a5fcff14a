use Rattle.toml_span_lex.proofs.Common.{rules, inl, refl}
use Rattle.toml_span_read.proofs.Places.{further_byte}
use Rattle.toml_span_read.proofs.gaps.gap_piece.Goals as goal

pub returns-in-32 : goal.returns-in-32
returns-in-32 c = (inl (search rules, refl), further_byte c.args.text.now c.args.at c.utf8.text (search rules) (search rules))
