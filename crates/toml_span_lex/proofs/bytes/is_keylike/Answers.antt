use Rattle.toml_span_lex.proofs.Common.{refl, arith}
use Rattle.toml_span_lex.specs.declared.bytes.TheConstants.{CLASS}
use Rattle.toml_span_lex.specs.Bytes.{is_keylike}
use Rattle.toml_span_lex.proofs.Tables.{agree_below, from_table}
use Rattle.toml_span_lex.proofs.bytes.is_keylike.Goals as goal

pub returns : goal.returns
unfolding agree_below
returns c = from_table CLASS 1 is_keylike c.args.byte (omega arith) refl
