use Rattle.toml_span_lex.proofs.Common.{rules, chars_from_encodes}
use Rattle.toml_span_schema.proofs.asserted.characters.Goals as goal

pub returns : goal.returns
returns c = search (rules, chars_from_encodes)
