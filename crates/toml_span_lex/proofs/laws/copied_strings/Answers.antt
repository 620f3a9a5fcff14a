use Rattle.toml_span_lex.proofs.Copies.{copied}
use Rattle.toml_span_lex.proofs.laws.copied_strings.Goals as goal

pub returns : goal.returns
returns c = copied
